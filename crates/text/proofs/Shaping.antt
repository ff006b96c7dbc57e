-- The form of an argument by its length and its first two bytes. Assumes nothing.
use Rattle.std.proofs.Common.{◌≡◌, ℕ, ◌+◌, ◌-◌, ◌<◌, List, [], ◌∷◌, length, get_or, take, drop, sym, ap, ◌∙◌, subst, arith, length-drop}
use Rattle.std.proofs.lemmas.List.{take_rest}
use Rattle.std.proofs.lemmas.Bool.{cond-true, cond-false, eq-eqb, ne_eqb}
use Rattle.text.specs.Edges.{Edge}
use Rattle.text.proofs.Edging.{edge_behind}
use Rattle.text.specs.Shapes.{long, short, form_of}

pub form_long : (xs : List ℕ) → 2 < length xs → get_or xs 0 0 ≡ 45 → get_or xs 1 0 ≡ 45 → long (take (length xs - 2) (drop 2 xs)) ≡ form_of xs
form_long [] l e f = absurd (omega arith)
form_long (x ∷ []) l e f = absurd (omega arith)
form_long (x ∷ y ∷ []) l e f = absurd (omega arith)
form_long (x ∷ y ∷ z ∷ xs) l e f = ap long (take_rest (x ∷ y ∷ z ∷ xs) 2) ∙ sym (cond-true _ _ _ (eq-eqb x 45 e) ∙ cond-true _ _ _ (eq-eqb y 45 f))

pub form_short : (xs : List ℕ) → 1 < length xs → get_or xs 0 0 ≡ 45 → (get_or xs 1 0 ≡ 45 → ⊥) → short (take (length xs - 1) (drop 1 xs)) ≡ form_of xs
form_short [] l e f = absurd (omega arith)
form_short (x ∷ []) l e f = absurd (omega arith)
form_short (x ∷ y ∷ xs) l e f = ap short (take_rest (x ∷ y ∷ xs) 1) ∙ sym (cond-true _ _ _ (eq-eqb x 45 e) ∙ cond-false _ _ _ (ne_eqb y 45 f))

-- what is left behind the byte at i, which is a dash
edge_left : (xs : List ℕ) (i : ℕ) → i < length xs → get_or xs i 0 ≡ 45 → Edge xs (length xs - length (take (length xs - (i + 1)) (drop (i + 1) xs)))
edge_left xs i in' e =
    let left : length (take (length xs - (i + 1)) (drop (i + 1) xs)) ≡ length (drop (i + 1) xs) = ap length (take_rest xs (i + 1)) in
    subst (Edge xs) (omega (arith, left, length-drop (i + 1) xs)) (edge_behind xs i 45 in' e (omega arith))

pub edge_long : (xs : List ℕ) → 2 < length xs → get_or xs 1 0 ≡ 45 → Edge xs (length xs - length (take (length xs - 2) (drop 2 xs)))
edge_long xs l e = edge_left xs 1 (omega arith) e

pub edge_short : (xs : List ℕ) → 0 < length xs → get_or xs 0 0 ≡ 45 → Edge xs (length xs - length (take (length xs - 1) (drop 1 xs)))
edge_short xs l e = edge_left xs 0 (omega arith) e
