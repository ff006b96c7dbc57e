-- The joined sink: the text of its arguments in a buffer, and zeros behind it. Assumes nothing.
use Rattle.std.specs.Prelude.{ℕ, ◌-◌, cond, List, [], ◌∷◌, ◌++◌, length, replicate, Some, None, Option, ◌==◌, nat_le}
use Rattle.std.specs.Option.{option_to_list}
use Rattle.text.specs.Arguments.{separator, join}
use Rattle.sinks.specs.Sinks.{Held, Bar, uncarried, full, Rules}

-- an argument so far has to fit behind the others
abbrev pub room : ℕ → List (List ℕ) → List ℕ → Option Bar
room size list argument = cond (nat_le (length (join (list ++ argument ∷ []))) size) None (Some full)

-- An empty first argument would leave an empty text, which has no arguments.
abbrev pub unfinished : List (List ℕ) → List ℕ → Option Bar
unfinished [] [] = Some uncarried
unfinished [] (b ∷ bs) = None
unfinished (a ∷ rest) argument = None

abbrev pub rules_at : ℕ → Rules
rules_at size = record {
  begins = λ list. room size list [];
  carries = λ list argument b. cond (b == separator) (Some uncarried) (room size list (argument ++ b ∷ []));
  finishes = unfinished;
}

-- the text of all arguments, the open one last
abbrev pub content : Held → List ℕ
content h = join (h.list ++ option_to_list h.pending)

-- the bytes, and zeros up to the size
abbrev pub filled : ℕ → List ℕ → List ℕ
filled size bytes = bytes ++ replicate (size - length bytes) 0
