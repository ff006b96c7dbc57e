use Rattle.std.proofs.Common.{arith}
use Rattle.reader.proofs.Taking.{list_at}
use Rattle.reader.proofs.Turning.{tells_by}
use Rattle.reader.proofs.turns.list_turn.Goals as goal

pub returns-clause-tells : goal.returns-clause-tells
returns-clause-tells c = λ o w most. tells_by o _ w _ _ _ (list_at o c.args.code c.args.here.text.now c.part.result c.args.here.at c.args.left c.part.ensures.bytes c.part.ensures.end c.part.ensures.behind) (c.taken.ensures.tells.told o _ c.part.ensures.there w (omega arith))

pub returns-clause-edges : goal.returns-clause-edges
returns-clause-edges c = record { kept = λ on. c.taken.ensures.edges.kept _ c.part.ensures.there ((c.part.ensures.edges on.list_end).kept on.here) }
