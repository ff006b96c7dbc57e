use Rattle.words.specs.Reading.{read}
use Rattle.words.proofs.Parted.{ended, part_there, lists_read_back}
use Rattle.words.proofs.Spelled.{read_nothing}
use Rattle.words.proofs.reading.part_at.Goals as goal

pub returns-then-at-list : goal.returns-then-at-list
returns-then-at-list g c =
    let s = g.W.WordSet in
    let met = g.met.W.WordSet in
    record {
      told = simp (c.piece_at.ensures.piece, c.piece_at.ensures.behind) (part_there (read s.words s.spelled) (read_nothing s.spelled met.cleans s.words) _ _ c.if-at-list.true);
      back = lists_read_back s.words s.spelled met.reads met.cleans;
    }

pub returns-else-at-list : goal.returns-else-at-list
returns-else-at-list g c =
    let s = g.W.WordSet in
    let met = g.met.W.WordSet in
    record {
      told = ended (read s.words s.spelled) (read_nothing s.spelled met.cleans s.words) _ _ c.if-at-list.false;
      back = lists_read_back s.words s.spelled met.reads met.cleans;
    }
