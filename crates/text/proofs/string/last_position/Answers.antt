use Rattle.std.proofs.Common.{rules}
use Rattle.text.proofs.Cutting.{last_told, last_within}
use Rattle.text.proofs.string.last_position.Goals as goal

pub returns-clause-place : goal.returns-clause-place
returns-clause-place c = last_told c.args.byte c.args.bytes.now c.rposition.result (search rules)

pub returns-clause-within : goal.returns-clause-within
returns-clause-within c = last_within c.args.byte c.args.bytes.now c.rposition.result (returns-clause-place c)
