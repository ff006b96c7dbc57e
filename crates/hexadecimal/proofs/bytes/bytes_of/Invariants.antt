use Rattle.std.proofs.Common.{◌≡◌, ◌++◌, length}
use Rattle.hexadecimal.specs.Digits.{digits_of, OfBytes}
use Rattle.hexadecimal.proofs.bytes.bytes_of.Given as goal

-- the digits that are read, and those that are left
abbrev pub invariant-loop-rest : goal.invariant-loop-rest
invariant-loop-rest l = record {
  read : l.digits ≡ digits_of l.bytes.items ++ l.rest;
  left : OfBytes l.digits → OfBytes l.rest;
}

abbrev pub decreases-loop-rest : goal.decreases-loop-rest
decreases-loop-rest l = length l.rest
