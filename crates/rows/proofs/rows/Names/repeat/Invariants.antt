use Rattle.std.proofs.Common.{◌≡◌, length}
use Rattle.rows.specs.Rows.{names_twice}
use Rattle.rows.proofs.rows.Names.repeat.Given as goal

abbrev pub invariant-loop-rows : goal.invariant-loop-rows
invariant-loop-rows l = names_twice l.self.text.now l.rows ≡ names_twice l.self.text.now l.self.rows.now

abbrev pub decreases-loop-rows : goal.decreases-loop-rows
decreases-loop-rows l = length l.rows
