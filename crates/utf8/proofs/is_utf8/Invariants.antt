-- What is left, from the state that is reached, has the answer of the whole.
use Rattle.std.proofs.Common.{◌≡◌, [], drop, Some}
use Rattle.utf8.specs.States.{ranges}
use Rattle.utf8.specs.Utf8.{utf8_from}
use Rattle.utf8.proofs.is_utf8.Given as goal

abbrev pub invariant-loop-b : goal.invariant-loop-b
invariant-loop-b l = utf8_from (Some (ranges l.owed)) (drop l.b-index l.bytes) ≡ utf8_from (Some []) l.bytes
