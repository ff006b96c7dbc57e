-- Bytes as hexadecimal digits, two a byte, in small letters. Assumes nothing.
use Rattle.std.specs.Prelude.{◌≡◌, ℕ, ◌/◌, ◌%◌, ◌<◌, List, [], ◌∷◌}
use Rattle.std.specs.List.{AllByRecursion}
use Rattle.std.specs.Char.{digit_char}

abbrev pub digits_of : List ℕ → List ℕ
digits_of [] = []
digits_of (b ∷ bs) = digit_char (b / 16) ∷ digit_char (b % 16) ∷ digits_of bs

-- they are the digits of some bytes
pub record OfBytes (digits : List ℕ) : Type 0 where
  pub bytes : List ℕ
  pub fit : AllByRecursion (λ b. b < 256) bytes
  pub same : digits ≡ digits_of bytes
