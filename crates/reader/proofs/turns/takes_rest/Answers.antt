use Rattle.std.proofs.Common.{ℕ, ◌+◌, arith, rules}
use Rattle.flags.specs.Meaning.{Bytes}
use Rattle.text.specs.Arguments.{piece_at}
use Rattle.reading.specs.Left.{first_from, first_taken}
use Rattle.reading.specs.Reading.{free}
use Rattle.reader.specs.Cursors.{args_behind}
use Rattle.reader.proofs.Turning.{tells_by, tells_moved, rest_next}
use Rattle.reader.proofs.TurnEdges.{from_next}
use Rattle.reader.proofs.turns.takes_rest.Goals as goal

pub returns-in-Some-eq31-clause-tells : goal.returns-in-Some-eq31-clause-tells
returns-in-Some-eq31-clause-tells c = λ o w less.
    let first_at = λ (t : Bytes) (p : ℕ). first_taken c.args.code (piece_at 31 t p) (args_behind t p) (first_from o free (args_behind t p)) in
    let told = tells_moved o c.takes_next.result first_at _ c.args.here.text.now _ (c.args.here.at + 1) c.next.ensures.text c.next.ensures.at (c.takes_next.ensures.tells o) in
    tells_by o _ w _ _ _ (rest_next o c.args.here.text.now c.args.here.at c.args.code (search rules)) (told w (omega arith))

pub returns-in-Some-eq31-clause-edges : goal.returns-in-Some-eq31-clause-edges
returns-in-Some-eq31-clause-edges c = from_next c.args.here c.next.result c.takes_next.result c.next.ensures.text c.next.ensures.edge c.takes_next.ensures.edges
