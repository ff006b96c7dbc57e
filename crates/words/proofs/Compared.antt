-- Two iterators of one kind, whose states show what is left, held against each other item by item. Assumes nothing.
use Rattle.std.proofs.Common.{◌≡◌, Bool, true, false, List, [], ◌∷◌, Option, Some, None, sym, subst}
use Rattle.std.specs.Cmp.Lexicographic.{pointwise}
use Rattle.std.specs.Iterator.{YieldsFirst, YieldsThen, ComparesItemsByEq}
use Rattle.std.specs.List.{AllZip}
use Rattle.std.specs.Option.{MatchOption, IfSome}

module _ {S A : Type 0} (rest : S → List A) (eq : A → A → Bool) (r : Bool) where
  abbrev Last : Option A → Option A → Type 0
  Last o p = MatchOption o (MatchOption p (r ≡ true) (λ _. r ≡ false)) (λ x. (r ≡ false) × IfSome p (λ y. eq x y ≡ false))

  at_last : (o p : Option A) (s u t v : S) → YieldsFirst rest s o u → YieldsFirst rest t p v → Last o p → r ≡ pointwise eq (rest s) (rest t)
  at_last None None s u t v a b h = rw (a.0, b.0) h
  at_last None (Some y) s u t v a b h = rw (a.0, b) h
  at_last (Some x) None s u t v a b h = rw (a, b.0) h.0
  at_last (Some x) (Some y) s u t v a b h = rw (a, b, h.1) h.0

  along : (xs ys : List A) (o p : Option A) (s u t v : S) → YieldsThen (YieldsFirst rest) s xs o u → YieldsThen (YieldsFirst rest) t ys p v → AllZip (λ x y. eq x y ≡ true) xs ys → Last o p → r ≡ pointwise eq (rest s) (rest t)
  along [] [] o p s u t v a b z h = at_last o p s u t v (subst (λ j. YieldsFirst rest j o u) (sym a.1) a.2) (subst (λ j. YieldsFirst rest j p v) (sym b.1) b.2) h
  along [] (y ∷ ys) o p s u t v a b z h = absurd z
  along (x ∷ xs) [] o p s u t v a b z h = absurd z
  along (x ∷ xs) (y ∷ ys) o p s u t v a b z h = rw (a.1.1, b.1.1, z.0) (along xs ys o p a.1.0 u b.1.0 v (a.0, a.1.2, a.2) (b.0, b.1.2, b.2) z.1 h)

  -- their `eq` says whether the same is left
  pub eq_by_rest : (s t : S) → ComparesItemsByEq (YieldsFirst rest) (λ x y. y ≡ x) (YieldsFirst rest) s t eq r → r ≡ pointwise eq (rest s) (rest t)
  eq_by_rest s t d = along d.1 d.2 d.3 d.4 s d.5 t d.6 d.8 (subst (λ j. YieldsThen (YieldsFirst rest) j d.2 d.4 d.6) d.7 d.9) d.10 d.11
