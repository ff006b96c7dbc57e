use Rattle.std.proofs.Common.{arith}
use Rattle.sheet.proofs.States.{no_argument}
use Rattle.sheet.proofs.state.Sheet.argument.Goals as goal

pub returns-then-n-self : goal.returns-then-n-self
returns-then-n-self c = no_argument c.args.self.now c.args.n (omega arith)
