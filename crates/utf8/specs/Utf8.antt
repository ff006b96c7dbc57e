-- Well-formed UTF-8, from Table 3-7 of the Unicode Standard. Assumes nothing.
use Rattle.std.specs.Prelude.{◌≡◌, ℕ, Bool, true, false, cond, ◌&&◌, ◌||◌, List, [], ◌∷◌, Some, None, Option, nat_le}
use Rattle.std.specs.List.{flat_map, AllByRecursion}

-- the bytes from one to another, both included
pub record Range : Type 0 where
  pub first : ℕ
  pub last : ℕ

infix 70 ◌to◌
abbrev pub ◌to◌ : ℕ → ℕ → Range
a to b = record { first = a; last = b }

abbrev pub within : Range → ℕ → Bool
within r b = nat_le r.first b && nat_le b r.last

-- the nine rows of the table: where each byte of a character may lie
abbrev pub table : List (List Range)
table =
    (0x00 to 0x7F ∷ [])
    ∷ (0xC2 to 0xDF ∷ 0x80 to 0xBF ∷ [])
    ∷ (0xE0 to 0xE0 ∷ 0xA0 to 0xBF ∷ 0x80 to 0xBF ∷ [])
    ∷ (0xE1 to 0xEC ∷ 0x80 to 0xBF ∷ 0x80 to 0xBF ∷ [])
    ∷ (0xED to 0xED ∷ 0x80 to 0x9F ∷ 0x80 to 0xBF ∷ [])
    ∷ (0xEE to 0xEF ∷ 0x80 to 0xBF ∷ 0x80 to 0xBF ∷ [])
    ∷ (0xF0 to 0xF0 ∷ 0x90 to 0xBF ∷ 0x80 to 0xBF ∷ 0x80 to 0xBF ∷ [])
    ∷ (0xF1 to 0xF3 ∷ 0x80 to 0xBF ∷ 0x80 to 0xBF ∷ 0x80 to 0xBF ∷ [])
    ∷ (0xF4 to 0xF4 ∷ 0x80 to 0x8F ∷ 0x80 to 0xBF ∷ 0x80 to 0xBF ∷ [])
    ∷ []

-- the bytes fill the row, one for each of its ranges
abbrev pub fits : List Range → List ℕ → Bool
fits [] [] = true
fits [] (b ∷ bs) = false
fits (r ∷ row) [] = false
fits (r ∷ row) (b ∷ bs) = within r b && fits row bs

abbrev pub some_row_fits : List (List Range) → List ℕ → Bool
some_row_fits [] bs = false
some_row_fits (row ∷ rows) bs = fits row bs || some_row_fits rows bs

-- the bytes are one character
abbrev pub Character : List ℕ → Type 0
Character bs = some_row_fits table bs ≡ true

-- the bytes are characters, one behind the other
abbrev pub Characters : List ℕ → Type 0
Characters bs = (cs : List (List ℕ)) × AllByRecursion Character cs × (flat_map (λ c. c) cs ≡ bs)

-- The same as a test that goes from byte to byte. It keeps the ranges of the bytes that the last character still lacks.

-- behind the first byte of a character, by the row that has it
abbrev pub begun : List (List Range) → ℕ → Option (List Range)
begun [] b = None
begun ([] ∷ rows) b = begun rows b
begun ((r ∷ row) ∷ rows) b = cond (within r b) (Some row) (begun rows b)

abbrev pub behind : List Range → ℕ → Option (List Range)
behind [] b = begun table b
behind (r ∷ row) b = cond (within r b) (Some row) None

abbrev pub utf8_from : Option (List Range) → List ℕ → Bool
utf8_from None bs = false
utf8_from (Some []) [] = true
utf8_from (Some (r ∷ row)) [] = false
utf8_from (Some []) (b ∷ bs) = utf8_from (behind [] b) bs
utf8_from (Some (r ∷ row)) (b ∷ bs) = utf8_from (behind (r ∷ row) b) bs

unfoldable pub utf8 : List ℕ → Bool
utf8 bs = utf8_from (Some []) bs
