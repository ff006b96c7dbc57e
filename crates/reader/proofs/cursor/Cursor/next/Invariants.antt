use Rattle.std.proofs.Common.{◌≡◌}
use Rattle.reading.specs.Left.{first}
use Rattle.reader.specs.Cursors.{left_of, StaysOnEdges}
use Rattle.reader.specs.Turns.{weight}
use Rattle.reader.proofs.cursor.Cursor.next.Given as goal

abbrev pub invariant-loop-flag : goal.invariant-loop-flag
invariant-loop-flag g l = record {
  same_first : first (g.T.Table.means l.table) (left_of l.self l.text) ≡ first (g.T.Table.means l.table) (left_of l.initial.self l.text);
  on_edges : StaysOnEdges l.text l.initial.self l.self;
}

abbrev pub decreases-loop-flag : goal.decreases-loop-flag
decreases-loop-flag g l = weight l.text l.self
