-- A set of words, read by their spellings. Assumes nothing.
use Rattle.std.specs.Prelude.{◌≡◌, ℕ, max, Bool, false, cond, not, ◌&&◌, List, [], ◌∷◌, length, Some, None, Option}
use Rattle.std.specs.Str.{bytes_eq}
use Rattle.text.specs.Cuts.{holds}

-- the first word that is spelled so
abbrev pub read : {W : Type 0} → List W → (W → List ℕ) → List ℕ → Option W
read [] spelled bs = None
read (w ∷ ws) spelled bs = cond (bytes_eq (spelled w) bs) (Some w) (read ws spelled bs)

-- the length of the longest spelling
abbrev pub longest : {W : Type 0} → List W → (W → List ℕ) → ℕ
longest [] spelled = 0
longest (w ∷ ws) spelled = max (length (spelled w)) (longest ws spelled)

-- a spelling has a byte, and none of 0x1f , = :
abbrev pub clean : List ℕ → Bool
clean [] = false
clean (b ∷ bs) = not (holds 31 (b ∷ bs)) && not (holds 44 (b ∷ bs)) && not (holds 61 (b ∷ bs)) && not (holds 58 (b ∷ bs))

-- bytes read as a word exactly when they are its spelling
abbrev pub ReadsExactly : {W : Type 0} → List W → (W → List ℕ) → List ℕ → Type 0
ReadsExactly {W} words spelled bs = (w : W) → (read words spelled bs ≡ Some w → bs ≡ spelled w) × (bs ≡ spelled w → read words spelled bs ≡ Some w)
