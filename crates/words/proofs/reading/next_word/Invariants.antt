use Rattle.std.proofs.Common.{◌≡◌, ◌-◌, length, drop}
use Rattle.words.specs.Lists.{known, first_known, first_from}
use Rattle.words.specs.Reading.{read}
use Rattle.words.proofs.reading.next_word.Given as goal

-- no part before the place is a word
abbrev pub invariant-parts : goal.invariant-parts
invariant-parts g l =
    let s = g.W.WordSet in
    (first_known (read s.words s.spelled) l.list ≡ first_from (read s.words s.spelled) l.list l.at) × (known (read s.words s.spelled) l.list ≡ known (read s.words s.spelled) (drop l.at l.list))

abbrev pub decreases-parts : goal.decreases-parts
decreases-parts g l = length l.list - l.at

-- no word before the place is the part
abbrev pub invariant-loop-place : goal.invariant-loop-place
invariant-loop-place g l = let s = g.W.WordSet in read s.words s.spelled l.part ≡ read (drop l.place s.words) s.spelled l.part
