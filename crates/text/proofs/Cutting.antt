-- Laws of the places of a byte and of the cuts there. Assumes nothing.
use Rattle.std.proofs.Common.{◌≡◌, ℕ, zero, suc, ◌<◌, ◌≢◌, Bool, true, false, cond, ◌||◌, eqb, List, [], ◌∷◌, ◌++◌, length, get_or, Some, None, Option, MatchOption, IfSome, refl, sym, ap, ◌∙◌, arith, length-append}
use Rattle.std.specs.Option.{option_map}
use Rattle.std.proofs.lemmas.Bool.{ne_eqb, eq-eqb, eqb-true, or_from}
use Rattle.std.proofs.lemmas.Option.{IfSome_then}
use Rattle.text.specs.Cuts.{holds, first_place, last_place, Halves, sides, with_front, cut_first, cut_last}

-- one function behind the other on what there may be
pub mapped-mapped : {X Y Z : Type 0} (f : X → Y) (g : Y → Z) (o : Option X) → option_map g (option_map f o) ≡ option_map (λ x. g (f x)) o
mapped-mapped f g None = refl
mapped-mapped f g (Some x) = refl

module _ (b : ℕ) where
  abbrev pub Absent : List ℕ → Type 0
  Absent bs = (k : ℕ) → k < length bs → get_or bs k 0 ≢ b

  no_first : (bs : List ℕ) → Absent bs → None ≡ first_place b bs
  no_first [] none = refl
  no_first (x ∷ xs) none = rw (ne_eqb x b (none 0 (omega arith)), ← no_first xs (λ k h. none (suc k) (omega arith)))

  first_at : (bs : List ℕ) (i : ℕ) → i < length bs → get_or bs i 0 ≡ b → ((k : ℕ) → k < i → get_or bs k 0 ≢ b) → Some i ≡ first_place b bs
  first_at [] i in' e before = absurd (omega arith)
  first_at (x ∷ xs) zero in' e before = rw (eq-eqb x b e)
  first_at (x ∷ xs) (suc i) in' e before = rw (ne_eqb x b (before 0 (omega arith)), ← first_at xs i (omega arith) e (λ k h. before (suc k) (omega arith)))

  no_last : (bs : List ℕ) → Absent bs → None ≡ last_place b bs
  no_last [] none = refl
  no_last (x ∷ xs) none = rw (← no_last xs (λ k h. none (suc k) (omega arith)), ne_eqb x b (none 0 (omega arith)))

  last_at : (bs : List ℕ) (i : ℕ) → i < length bs → get_or bs i 0 ≡ b → ((k : ℕ) → i < k → k < length bs → get_or bs k 0 ≢ b) → Some i ≡ last_place b bs
  last_at [] i in' e behind = absurd (omega arith)
  last_at (x ∷ xs) zero in' e behind = rw (← no_last xs (λ k h. behind (suc k) (omega arith) (omega arith)), eq-eqb x b e)
  last_at (x ∷ xs) (suc i) in' e behind = rw (← last_at xs i (omega arith) e (λ k f h. behind (suc k) (omega arith) (omega arith)))

  -- a search from the front, and one from the back, by the places that it passed
  module _ (bs : List ℕ) where
    pub first_told : (r : Option ℕ) → MatchOption r (Absent bs) (λ i. (i < length bs) × (get_or bs i 0 ≡ b) × ((k : ℕ) → k < i → get_or bs k 0 ≢ b)) → r ≡ first_place b bs
    first_told None told = no_first bs told
    first_told (Some i) told = first_at bs i told.0 told.1 told.2

    pub last_told : (r : Option ℕ) → MatchOption r (Absent bs) (λ i. (i < length bs) × (get_or bs i 0 ≡ b) × ((k : ℕ) → i < k → k < length bs → get_or bs k 0 ≢ b)) → r ≡ last_place b bs
    last_told None told = no_last bs told
    last_told (Some i) told = last_at bs i told.0 told.1 told.2

module _ (x : ℕ) (xs : List ℕ) where
  first_sides : (t : Bool) (o : Option ℕ) → cond t (Some ([], xs)) (option_map (with_front x) (option_map (sides xs) o)) ≡ option_map (sides (x ∷ xs)) (cond t (Some 0) (option_map suc o))
  first_sides true o = refl
  first_sides false None = refl
  first_sides false (Some i) = refl

  last_sides : (t : Bool) (o : Option ℕ) → ◌≡◌ {A = Option Halves} (elim (option_map (sides xs) o) [ Some p ↦ Some (with_front x p) | None ↦ cond t (Some ([], xs)) None ]) (option_map (sides (x ∷ xs)) (elim o [ Some i ↦ Some (suc i) | None ↦ cond t (Some 0) None ]))
  last_sides true None = refl
  last_sides false None = refl
  last_sides t (Some i) = refl

pub cut_first_sides : (b : ℕ) (bs : List ℕ) → cut_first b bs ≡ option_map (sides bs) (first_place b bs)
cut_first_sides b [] = refl
cut_first_sides b (x ∷ xs) = rw (cut_first_sides b xs) (first_sides x xs (eqb x b) (first_place b xs))

pub cut_last_sides : (b : ℕ) (bs : List ℕ) → cut_last b bs ≡ option_map (sides bs) (last_place b bs)
cut_last_sides b [] = refl
cut_last_sides b (x ∷ xs) = rw (cut_last_sides b xs) (last_sides x xs (eqb x b) (last_place b xs))

-- a place is that of the byte
abbrev pub Holds : ℕ → List ℕ → ℕ → Type 0
Holds b bs i = (i < length bs) × (get_or bs i 0 ≡ b)

abbrev last_of : Bool → Option ℕ → Option ℕ
last_of t o = elim o [ Some i ↦ Some (suc i) | None ↦ cond t (Some 0) None ]

module _ (b x : ℕ) (xs : List ℕ) where
  first_held_at : (t : Bool) (o : Option ℕ) → eqb x b ≡ t → IfSome o (Holds b xs) → IfSome (cond t (Some 0) (option_map suc o)) (Holds b (x ∷ xs))
  first_held_at true o e held = (omega arith, eqb-true x b e)
  first_held_at false None e held = tt
  first_held_at false (Some i) e held = (omega arith, held.1)

  last_held_at : (t : Bool) (o : Option ℕ) → eqb x b ≡ t → IfSome o (Holds b xs) → IfSome (last_of t o) (Holds b (x ∷ xs))
  last_held_at true None e held = (omega arith, eqb-true x b e)
  last_held_at false None e held = tt
  last_held_at t (Some i) e held = (omega arith, held.1)

pub first_held : (b : ℕ) (bs : List ℕ) → IfSome (first_place b bs) (Holds b bs)
first_held b [] = tt
first_held b (x ∷ xs) = first_held_at b x xs (eqb x b) (first_place b xs) refl (first_held b xs)

pub last_held : (b : ℕ) (bs : List ℕ) → IfSome (last_place b bs) (Holds b bs)
last_held b [] = tt
last_held b (x ∷ xs) = last_held_at b x xs (eqb x b) (last_place b xs) refl (last_held b xs)

-- the same of a place that is found, as a cut there asks for it and as it gives the sides
module _ (b : ℕ) (bs : List ℕ) (place : Option ℕ) where
  pub first_within : place ≡ first_place b bs → IfSome place (λ i. i < length bs)
  first_within e = rw e (IfSome_then (first_place b bs) (first_held b bs) (λ i (held : Holds b bs i). held.0))

  pub last_within : place ≡ last_place b bs → IfSome place (λ i. i < length bs)
  last_within e = rw e (IfSome_then (last_place b bs) (last_held b bs) (λ i (held : Holds b bs i). held.0))

  pub cut_first_by : (r : Option Halves) → place ≡ first_place b bs → r ≡ option_map (sides bs) place → r ≡ cut_first b bs
  cut_first_by r e s = s ∙ ap (option_map (sides bs)) e ∙ sym (cut_first_sides b bs)

  pub cut_last_by : (r : Option Halves) → place ≡ last_place b bs → r ≡ option_map (sides bs) place → r ≡ cut_last b bs
  cut_last_by r e s = s ∙ ap (option_map (sides bs)) e ∙ sym (cut_last_sides b bs)

-- a cut leaves the whole: the front, the byte, the back
whole_at : (b x : ℕ) (xs : List ℕ) (p : Halves) (t : Bool) (o : Option Halves) → (t ≡ true → x ≡ b) → ((q : Halves) → o ≡ Some q → xs ≡ q.0 ++ b ∷ q.1) → cond t (Some ([], xs)) (option_map (with_front x) o) ≡ Some p → x ∷ xs ≡ p.0 ++ b ∷ p.1
whole_at b x xs p true o is rest e = let f : p ≡ ([], xs) = cc in rw f (ap (λ y. y ∷ xs) (is refl))
whole_at b x xs p false None is rest e = absurd cc
whole_at b x xs p false (Some q) is rest e = let f : p ≡ with_front x q = cc in rw f (ap (λ l. x ∷ l) (rest q refl))

pub cut_first_whole : (b : ℕ) (bs : List ℕ) (p : Halves) → cut_first b bs ≡ Some p → bs ≡ p.0 ++ b ∷ p.1
cut_first_whole b [] p e = absurd cc
cut_first_whole b (x ∷ xs) p e = whole_at b x xs p (eqb x b) (cut_first b xs) (eqb-true x b) (cut_first_whole b xs) e

-- what stands behind a cut is shorter
pub cut_first_shorter : (b : ℕ) (bs : List ℕ) (p : Halves) → cut_first b bs ≡ Some p → length p.1 < length bs
cut_first_shorter b bs p e = omega (arith, simp length-append at (ap length (cut_first_whole b bs p e)))

-- no b stands before the cut, and none at all where there is no cut
front_at : (b x : ℕ) (xs : List ℕ) (p : Halves) (t : Bool) (o : Option Halves) → (eqb x b ≡ t) → ((q : Halves) → o ≡ Some q → holds b q.0 ≡ false) → cond t (Some ([], xs)) (option_map (with_front x) o) ≡ Some p → holds b p.0 ≡ false
front_at b x xs p true o is rest e = let f : p.0 ≡ [] = cc in ap (holds b) f
front_at b x xs p false None is rest e = absurd cc
front_at b x xs p false (Some q) is rest e = let f : p.0 ≡ x ∷ q.0 = cc in ap (holds b) f ∙ or_from _ _ is (rest q refl)

pub cut_first_front : (b : ℕ) (bs : List ℕ) (p : Halves) → cut_first b bs ≡ Some p → holds b p.0 ≡ false
cut_first_front b [] p e = absurd cc
cut_first_front b (x ∷ xs) p e = front_at b x xs p (eqb x b) (cut_first b xs) refl (cut_first_front b xs) e

none_at : (b x : ℕ) (xs : List ℕ) (t : Bool) (o : Option Halves) {r : Bool} → (eqb x b ≡ t) → (o ≡ None → r ≡ false) → cond t (Some ([], xs)) (option_map (with_front x) o) ≡ None → (eqb x b || r) ≡ false
none_at b x xs true o is rest e = absurd cc
none_at b x xs false None is rest e = or_from _ _ is (rest refl)
none_at b x xs false (Some q) is rest e = absurd cc

pub cut_first_none : (b : ℕ) (bs : List ℕ) → cut_first b bs ≡ None → holds b bs ≡ false
cut_first_none b [] e = refl
cut_first_none b (x ∷ xs) e = none_at b x xs (eqb x b) (cut_first b xs) refl (cut_first_none b xs) e

-- no b stands behind the last one
back_at : (b x : ℕ) (xs : List ℕ) (p : Halves) (t : Bool) (o : Option Halves) → ((q : Halves) → o ≡ Some q → holds b q.1 ≡ false) → (o ≡ None → holds b xs ≡ false) → ◌≡◌ {A = Option Halves} (elim o [ Some q ↦ Some (with_front x q) | None ↦ cond t (Some ([], xs)) None ]) (Some p) → holds b p.1 ≡ false
back_at b x xs p true None rest none e = let f : p.1 ≡ xs = cc in ap (holds b) f ∙ none refl
back_at b x xs p false None rest none e = absurd cc
back_at b x xs p t (Some q) rest none e = let f : p.1 ≡ q.1 = cc in ap (holds b) f ∙ rest q refl

last_none_at : (b x : ℕ) (xs : List ℕ) (t : Bool) (o : Option Halves) {r : Bool} → (o ≡ None → r ≡ false) → ◌≡◌ {A = Option Halves} (elim o [ Some q ↦ Some (with_front x q) | None ↦ cond t (Some ([], xs)) None ]) None → (t || r) ≡ false
last_none_at b x xs true None rest e = absurd cc
last_none_at b x xs false None rest e = rest refl
last_none_at b x xs t (Some q) rest e = absurd cc

pub cut_last_none : (b : ℕ) (bs : List ℕ) → cut_last b bs ≡ None → holds b bs ≡ false
cut_last_none b [] e = refl
cut_last_none b (x ∷ xs) e = last_none_at b x xs (eqb x b) (cut_last b xs) (cut_last_none b xs) e

pub cut_last_back : (b : ℕ) (bs : List ℕ) (p : Halves) → cut_last b bs ≡ Some p → holds b p.1 ≡ false
cut_last_back b [] p e = absurd cc
cut_last_back b (x ∷ xs) p e = back_at b x xs p (eqb x b) (cut_last b xs) (cut_last_back b xs) (cut_last_none b xs) e
