-- The sheet: arguments back to back in a buffer, and a table of their places. Assumes nothing.
use Rattle.std.specs.Prelude.{ℕ, ◌+◌, ◌-◌, min, cond, List, [], ◌∷◌, ◌++◌, length, replicate, Some, None, nat_le, nat_lt}
use Rattle.std.specs.List.{concat}
use Rattle.std.specs.Option.{option_to_list}
use Rattle.sinks.specs.Sinks.{Held, full, Rules}

-- so many bytes of a buffer are used at most
abbrev pub limit_of : ℕ → ℕ
limit_of size = min size 65535

-- the offset and the length of each, from a place on
abbrev pub places : ℕ → List (List ℕ) → List (ℕ × ℕ)
places at [] = []
places at (a ∷ rest) = (at, length a) ∷ places (at + length a) rest

-- An argument needs a row of the table, and a byte needs space. Any byte and any argument can be carried.
abbrev pub rules_at : ℕ → ℕ → Rules
rules_at limit rows = record {
  begins = λ list. cond (nat_lt (length list) rows) None (Some full);
  carries = λ list argument b. cond (nat_le (length (concat list) + length argument + 1) limit) None (Some full);
  finishes = λ list argument. None;
}

-- all arguments, the open one last
abbrev pub content : Held → List ℕ
content h = concat (h.list ++ option_to_list h.pending)

-- the bytes, zeros up to the limit, and what stands past it
abbrev pub filled : ℕ → List ℕ → List ℕ → List ℕ
filled limit bytes beyond = bytes ++ (replicate (limit - length bytes) 0 ++ beyond)

-- the rows, and zeros up to the table's end
abbrev pub filled_rows : ℕ → List (ℕ × ℕ) → List (ℕ × ℕ)
filled_rows rows pairs = pairs ++ replicate (rows - length pairs) (0, 0)
