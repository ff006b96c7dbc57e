use Rattle.std.proofs.Common.{ℕ, ◌+◌, lit<, arith, rules}
use Rattle.flags.specs.Meaning.{Bytes}
use Rattle.text.specs.Arguments.{piece_at}
use Rattle.reading.specs.Left.{first_from, first_letter}
use Rattle.reader.specs.Cursors.{args_behind}
use Rattle.reader.specs.declared.cursor.State.TheVariants.{Between, Cluster}
use Rattle.reader.proofs.Arguing.{place_later}
use Rattle.reader.proofs.Shaped.{plain_first, letter_first}
use Rattle.reader.proofs.Turning.{tells_by, tells_moved, in_state}
use Rattle.reader.proofs.TurnEdges.{passes_next, turns_next}
use Rattle.reader.proofs.turns.turn_at.Goals as goal

pub returns-in-Between-Some-clause-tells : goal.returns-in-Between-Some-clause-tells
returns-in-Between-Some-clause-tells g c =
    let o = g.T.Table.means c.args.table.now in
    let text = c.args.here.text.now in
    let at = c.args.here.at in
    let later = place_later text at c.in-Between-Some.ensures.within in
    in_state o text _ at c.args.state Between c.in-Between-Some.is-0
    (tells_by o text _ _ _ _ (plain_first o text at c.in-Between-Some.field-0-1 c.in-Between-Some.ensures.here (search rules)) (c.skipped.ensures.tells o _ (omega (arith, later, c.in-Between-Some.ensures.within))))

pub returns-in-Cluster-Some-clause-tells : goal.returns-in-Cluster-Some-clause-tells
returns-in-Cluster-Some-clause-tells g c =
    let o = g.T.Table.means c.args.table.now in
    let text = c.args.here.text.now in
    let at = c.args.here.at in
    let in' = c.in-Cluster-Some.ensures.within in
    let first_at = λ (t : Bytes) (p : ℕ). first_letter (args_behind t p) (λ s. first_from o s (args_behind t p)) (o.short c.in-Cluster-Some.letter) (piece_at 31 t p) in
    let told = tells_moved o c.letter_turn.result first_at _ text _ (at + 1) c.next.ensures.text c.next.ensures.at c.letter_turn.ensures.tells in
    in_state o text _ at c.args.state Cluster c.in-Cluster-Some.is-0
    (tells_by o text _ _ _ _ (letter_first o text at c.in-Cluster-Some.letter c.in-Cluster-Some.ensures.here (search rules)) (told _ (omega (arith, in'))))

pub returns-in-Cluster-Some-eq31-clause-edges : goal.returns-in-Cluster-Some-eq31-clause-edges
returns-in-Cluster-Some-eq31-clause-edges g c = passes_next c.args.here 31 (search rules) (lit< tt) c.args.state c.between.result c.between.ensures

pub returns-in-Cluster-Some-clause-edges : goal.returns-in-Cluster-Some-clause-edges
returns-in-Cluster-Some-clause-edges g c = turns_next c.args.here c.next.result c.letter_turn.result c.next.ensures.text c.next.ensures.edge c.letter_turn.ensures.edges c.args.state
