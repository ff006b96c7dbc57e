use Rattle.reader.proofs.Clipping.{tells_clipped}
use Rattle.reader.proofs.TurnEdges.{turns_clipped}
use Rattle.reader.proofs.turns.one_turn.Goals as goal

pub returns-clause-tells : goal.returns-clause-tells
returns-clause-tells g c = tells_clipped (g.T.Table.means c.args.table.now) c.args.text.now c.args.cursor.state _ c.args.cursor.at _ c.min.ensures c.turn_at.ensures.tells

pub returns-clause-edges : goal.returns-clause-edges
returns-clause-edges g c = turns_clipped c.args.text.now c.args.cursor _ c.turn_at.result c.min.ensures c.turn_at.ensures.edges
