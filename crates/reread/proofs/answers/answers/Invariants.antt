use Rattle.std.proofs.Common.{map, string_bytes}
use Rattle.reread.specs.Answers.{AllAnswered}
use Rattle.reread.proofs.answers.answers.Given as goal

-- the lines so far, and what is written of them
abbrev pub invariant-loop-line : goal.invariant-loop-line
invariant-loop-line l = AllAnswered (map (λ x. x.now) l.yielded) (string_bytes l.out)
