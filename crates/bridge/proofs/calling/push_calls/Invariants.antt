use Rattle.std.proofs.Common.{length, string_bytes}
use Rattle.reader.specs.Cursors.{left_of}
use Rattle.reading.specs.Left.{coming}
use Rattle.tables.specs.Rustc.{rustc}
use Rattle.bridge.proofs.Lines.{Awaits}
use Rattle.bridge.proofs.calling.push_calls.Given as goal

-- what is written, and the flags that are to come
abbrev pub invariant-loop-flag : goal.invariant-loop-flag
invariant-loop-flag l = Awaits (coming rustc (left_of l.fn.cursor l.text)) (coming rustc (left_of l.cursor l.text)) (string_bytes l.out)

abbrev pub decreases-loop-flag : goal.decreases-loop-flag
decreases-loop-flag l = length (coming rustc (left_of l.cursor l.text))
