-- What the parts of the joined sink tell it, over the bytes of its buffer. It adds no meaning.
use Rattle.std.specs.Prelude.{◌≡◌, ℕ, ◌-◌, ◌≤◌, false, cond, List, length, take, drop, replicate, Some, None, Option, nat_le}
use Rattle.text.specs.Arguments.{separator, arguments}
use Rattle.text.specs.Cuts.{begins, first_place}
use Rattle.sinks.specs.Sinks.{Bar, uncarried, full}

-- what bars the first of the bytes that does not go in, with space for so many
abbrev pub bytes_bar : ℕ → List ℕ → Option Bar
bytes_bar left bs =
    elim (first_place separator bs) [
      | Some at ↦ cond (nat_le at left) (Some uncarried) (Some full)
      | None ↦ cond (nat_le (length bs) left) None (Some full)
    ]

-- from a place on all is zero
abbrev pub ClearFrom : ℕ → List ℕ → Type 0
ClearFrom at bytes = drop at bytes ≡ replicate (length bytes - at) 0

-- A text up to a place, whose first argument is not empty.
pub record Text (bytes : List ℕ) (end count : ℕ) : Type 0 where
  pub counted : count ≡ length (arguments (take end bytes))
  pub first : begins separator (take end bytes) ≡ false

-- the text of the first n arguments of a text ends here
pub record Front (bytes : List ℕ) (end n to : ℕ) : Type 0 where
  pub within : to ≤ end
  pub text : Text bytes to n
  pub list : arguments (take to bytes) ≡ take n (arguments (take end bytes))
