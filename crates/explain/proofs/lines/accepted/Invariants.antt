use Rattle.std.proofs.Common.{◌≡◌, ◌+◌, ◌++◌, string_bytes}
use Rattle.text.specs.Arguments.{left}
use Rattle.explain.specs.Report.{lines, accepted}
use Rattle.explain.specs.Told.{state_of}
use Rattle.explain.proofs.lines.accepted.Given as goal

-- what is written, and the lines of the arguments that are left
abbrev pub invariant-loop-i : goal.invariant-loop-i
invariant-loop-i l = string_bytes l.out ++ lines (l.i-iterator.count + 1) (state_of l.owed) (left l.i-iterator.iter) ≡ accepted l.text
