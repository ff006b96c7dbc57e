use Rattle.std.proofs.Common.{◌≡◌, ◌+◌, length}
use Rattle.bridge.specs.Calls.{flags_of}
use Rattle.reader.specs.Cursors.{left_of}
use Rattle.reading.specs.Left.{coming}
use Rattle.tables.specs.Rustc.{rustc}
use Rattle.bridge.proofs.calling.count.Given as goal

-- the flags that were counted, and those that are to come
abbrev pub invariant-loop-flags : goal.invariant-loop-flags
invariant-loop-flags l = l.flags + length (coming rustc (left_of l.cursor l.text)) ≡ length (flags_of l.text)

abbrev pub decreases-loop-flags : goal.decreases-loop-flags
decreases-loop-flags l = length (coming rustc (left_of l.cursor l.text))
