-- What the code's numbers and states stand for. Assumes nothing.
use Rattle.std.specs.Prelude.{ℕ, suc, Bool, true, cond, ◌&&◌, List, [], ◌∷◌, ◌==◌, nat_le}
use Rattle.utf8.specs.Utf8.{Range, ◌to◌}
use Rattle.utf8.specs.declared.Owed.{Owed}
use Rattle.utf8.specs.declared.Owed.TheVariants.{Nothing, One, Two, Three, TwoAfterE0, TwoAfterEd, ThreeAfterF0, ThreeAfterF4}

-- where the classes of bytes begin, but for the first, which begins at 0
abbrev pub starts : List ℕ
starts =
    0x80 ∷ 0x90 ∷ 0xA0 ∷ 0xC0 ∷ 0xC2 ∷ 0xE0 ∷ 0xE1 ∷ 0xED ∷ 0xEE ∷ 0xF0 ∷ 0xF1 ∷ 0xF4 ∷ 0xF5 ∷ []

abbrev pub reached : List ℕ → ℕ → ℕ
reached [] b = 0
reached (s ∷ ss) b = cond (nat_le s b) (suc (reached ss b)) 0

-- the class of a byte: how many of the starts it has reached
abbrev pub classed : ℕ → ℕ
classed b = reached starts b

-- the entries are the function's values, in order
abbrev pub lists : (ℕ → ℕ) → List ℕ → Bool
lists f [] = true
lists f (x ∷ xs) = x == f 0 && lists (λ k. f (suc k)) xs

-- where the bytes may lie that a character still lacks
abbrev pub ranges : Owed → List Range
ranges Nothing = []
ranges One = 0x80 to 0xBF ∷ []
ranges Two = 0x80 to 0xBF ∷ 0x80 to 0xBF ∷ []
ranges Three = 0x80 to 0xBF ∷ 0x80 to 0xBF ∷ 0x80 to 0xBF ∷ []
ranges TwoAfterE0 = 0xA0 to 0xBF ∷ 0x80 to 0xBF ∷ []
ranges TwoAfterEd = 0x80 to 0x9F ∷ 0x80 to 0xBF ∷ []
ranges ThreeAfterF0 = 0x90 to 0xBF ∷ 0x80 to 0xBF ∷ 0x80 to 0xBF ∷ []
ranges ThreeAfterF4 = 0x80 to 0x8F ∷ 0x80 to 0xBF ∷ 0x80 to 0xBF ∷ []
