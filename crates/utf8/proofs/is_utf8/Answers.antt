-- The invariant gives the answer at each return; the laws say what it is an answer to.
use Rattle.std.proofs.Common.{◌≡◌, ℕ, false, List, Some, None, sym, ◌∙◌}
use Rattle.std.proofs.lemmas.List.{at_drop_all}
use Rattle.std.proofs.lemmas.Bool.Decides.{Decides-at}
use Rattle.utf8.specs.States.{ranges}
use Rattle.utf8.specs.Utf8.{utf8, utf8_from}
use Rattle.utf8.proofs.Laws.{utf8_characters, walk_more}
use Rattle.utf8.proofs.Texts.{utf8_text}
use Rattle.utf8.proofs.is_utf8.Goals as goal

pub loop-b-preserved : goal.loop-b-preserved
loop-b-preserved c =
    sym (walk_more (ranges c.loop-b.owed) c.args.bytes.now c.loop-b.b-index (Some (ranges c.in-Some.next)) c.loop-b-test.true c.in-Some.ensures)
    ∙ c.loop-b.invariant

pub returns-in_default : goal.returns-in_default
unfolding utf8
returns-in_default c =
    let bs : List ℕ = c.args.bytes.now in
    let e : false ≡ utf8 bs =
    sym (walk_more (ranges c.loop-b.owed) bs c.loop-b.b-index None c.loop-b-test.true c.in_default.ensures) ∙ c.loop-b.invariant in
    record {
      answer = e;
      characters = Decides-at false (utf8 bs) e (utf8_characters bs);
      kit_text = Decides-at false (utf8 bs) e (utf8_text bs);
    }

pub returns : goal.returns
unfolding utf8
returns c =
    let bs : List ℕ = c.args.bytes.now in
    let e : c.is_whole.result ≡ utf8 bs =
    c.is_whole.ensures
    ∙ sym (at_drop_all (utf8_from (Some (ranges c.loop-b.owed))) bs c.loop-b.b-index c.loop-b-test.false)
    ∙ c.loop-b.invariant in
    record {
      answer = e;
      characters = Decides-at c.is_whole.result (utf8 bs) e (utf8_characters bs);
      kit_text = Decides-at c.is_whole.result (utf8 bs) e (utf8_text bs);
    }
