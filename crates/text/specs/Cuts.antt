-- Where a byte stands in a list of bytes, and the two parts on its sides. Assumes nothing.
use Rattle.std.specs.Prelude.{ℕ, suc, ◌+◌, ◌-◌, Bool, false, cond, ◌||◌, List, [], ◌∷◌, length, take, drop, Some, None, Option, ◌==◌, slice_index}
use Rattle.std.specs.Borrow.{Bor}
use Rattle.std.specs.Option.{option_map}

abbrev pub holds : ℕ → List ℕ → Bool
holds b [] = false
holds b (x ∷ xs) = x == b || holds b xs

abbrev pub occurrences : ℕ → List ℕ → ℕ
occurrences b [] = 0
occurrences b (x ∷ xs) = cond (x == b) 1 0 + occurrences b xs

abbrev pub begins : ℕ → List ℕ → Bool
begins b [] = false
begins b (x ∷ xs) = x == b

abbrev pub ends : ℕ → List ℕ → Bool
ends b bs = cond (length bs == 0) false (slice_index bs (length bs - 1) == b)

-- the place of the first b
abbrev pub first_place : ℕ → List ℕ → Option ℕ
first_place b [] = None
first_place b (x ∷ xs) = cond (x == b) (Some 0) (option_map suc (first_place b xs))

-- the place of the last b
abbrev pub last_place : ℕ → List ℕ → Option ℕ
last_place b [] = None
last_place b (x ∷ xs) = elim (last_place b xs) [ Some i ↦ Some (suc i) | None ↦ cond (x == b) (Some 0) None ]

abbrev pub Halves : Type 0
Halves = List ℕ × List ℕ

-- what two slices hold
abbrev pub both : Bor (List ℕ) × Bor (List ℕ) → Halves
both p = (p.0.now, p.1.now)

-- the parts on the sides of a place
abbrev pub sides : List ℕ → ℕ → Halves
sides bs i = (take i bs, drop (suc i) bs)

abbrev pub with_front : ℕ → Halves → Halves
with_front x p = (x ∷ p.0, p.1)

-- what stands before the first b, and what stands behind it
abbrev pub cut_first : ℕ → List ℕ → Option Halves
cut_first b [] = None
cut_first b (x ∷ xs) = cond (x == b) (Some ([], xs)) (option_map (with_front x) (cut_first b xs))

-- what stands before the last b, and what stands behind it
abbrev pub cut_last : ℕ → List ℕ → Option Halves
cut_last b [] = None
cut_last b (x ∷ xs) = elim (cut_last b xs) [ Some p ↦ Some (with_front x p) | None ↦ cond (x == b) (Some ([], xs)) None ]
