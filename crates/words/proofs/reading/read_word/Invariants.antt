use Rattle.std.proofs.Common.{◌≡◌, drop}
use Rattle.words.specs.Reading.{read}
use Rattle.words.proofs.reading.read_word.Given as goal

abbrev pub invariant-loop-place : goal.invariant-loop-place
invariant-loop-place g l = let s = g.W.WordSet in read s.words s.spelled l.bytes ≡ read (drop l.place s.words) s.spelled l.bytes
