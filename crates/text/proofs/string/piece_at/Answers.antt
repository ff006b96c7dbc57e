use Rattle.text.proofs.Walking.{cut_at_edges}
use Rattle.text.proofs.string.piece_at.Goals as goal

pub returns-in-Some-clause-edges : goal.returns-in-Some-clause-edges
returns-in-Some-clause-edges c = cut_at_edges c.args.byte c.args.bytes.now c.args.at
