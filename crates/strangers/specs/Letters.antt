-- A sink for arguments of one byte each, as somebody might write it who knows the trait alone. Assumes nothing.
use Rattle.std.specs.Prelude.{ℕ, cond, List, [], ◌∷◌, length, Some, None, Option, nat_lt}
use Rattle.sinks.specs.Sinks.{Bar, uncarried, full, Rules}

abbrev pub letter : ℕ → List ℕ
letter b = b ∷ []

-- a second byte is one too many
abbrev pub second : List ℕ → ℕ → Option Bar
second [] b = None
second (x ∷ xs) b = Some uncarried

-- and no byte is one too few
abbrev pub missing : List ℕ → Option Bar
missing [] = Some uncarried
missing (x ∷ xs) = None

abbrev pub rules_at : ℕ → Rules
rules_at size = record {
  begins = λ list. cond (nat_lt (length list) size) None (Some full);
  carries = λ list argument b. second argument b;
  finishes = λ list argument. missing argument;
}

-- a sink that takes nothing
abbrev pub never : Rules
never = record {
  begins = λ list. Some full;
  carries = λ list argument b. Some full;
  finishes = λ list argument. Some full;
}
