-- From one test of all the entries of a table to each of them. Assumes nothing.
use Rattle.std.proofs.Common.{◌≡◌, ℕ, zero, suc, ◌<◌, true, eqb, List, [], ◌∷◌, length, get_or, le_of_suc-le-suc, not-suc-le-zero}
use Rattle.std.proofs.lemmas.Bool.{and_parts, eqb-true}
use Rattle.utf8.specs.States.{lists}

pub entry : (f : ℕ → ℕ) (xs : List ℕ) → lists f xs ≡ true → (k : ℕ) → k < length xs → get_or xs k 0 ≡ f k
entry f [] t k h = absurd (not-suc-le-zero h)
entry f (x ∷ xs) t zero h = eqb-true x (f 0) (and_parts (eqb x (f 0)) (lists (λ n. f (suc n)) xs) t).0
entry f (x ∷ xs) t (suc k) h =
    entry (λ n. f (suc n)) xs (and_parts (eqb x (f 0)) (lists (λ n. f (suc n)) xs) t).1 k (le_of_suc-le-suc h)
