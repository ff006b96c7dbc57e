use Rattle.std.proofs.Common.{rules}
use Rattle.text.proofs.Cutting.{first_told, first_within}
use Rattle.text.proofs.string.position.Goals as goal

pub returns-clause-place : goal.returns-clause-place
returns-clause-place c = first_told c.args.byte c.args.bytes.now c.position.result (search rules)

pub returns-clause-within : goal.returns-clause-within
returns-clause-within c = first_within c.args.byte c.args.bytes.now c.position.result (returns-clause-place c)
