use Rattle.std.proofs.Common.{rules, arith}
use Rattle.std.proofs.lemmas.Bool.Decides.{nat_tests}
use Rattle.opt.proofs.Parsed.{long_told}
use Rattle.opt.proofs.years.is_long.Goals as goal

pub returns-in-Some : goal.returns-in-Some
returns-in-Some c h = long_told c.args.digits.now c.position.result (search rules) c.in-Some.zeros c.in-Some.is (grind (arith, nat_tests))
