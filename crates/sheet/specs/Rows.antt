-- The rows of a sheet as they lie, and what is zero behind them. It adds no meaning.
use Rattle.std.specs.Prelude.{◌≡◌, ℕ, ◌+◌, ◌-◌, Bool, ◌&&◌, List, [], ◌∷◌, ◌++◌, take, drop, replicate, ◌==◌}

-- each row begins where the one before it ends: as a fact, and as a test
abbrev pub Chained : ℕ → List (ℕ × ℕ) → ℕ → Type 0
Chained at [] end = at ≡ end
Chained at (p ∷ ps) end = (p.0 ≡ at) × Chained (at + p.1) ps end

abbrev pub chained : ℕ → List (ℕ × ℕ) → ℕ → Bool
chained at [] end = at == end
chained at (p ∷ ps) end = p.0 == at && chained (at + p.1) ps end

-- a text cut up by the lengths of the rows
abbrev pub cut_up : List (ℕ × ℕ) → List ℕ → List (List ℕ)
cut_up [] text = []
cut_up (p ∷ ps) text = take p.1 text ∷ cut_up ps (drop p.1 text)

-- zeros from a place up to a limit
abbrev pub ClearFrom : {X : Type 0} → X → ℕ → ℕ → List X → Type 0
ClearFrom zero limit at xs = drop at xs ≡ replicate (limit - at) zero ++ drop limit xs
