-- Cutting and joining undo each other. Assumes nothing.
use Rattle.std.proofs.Common.{◌≡◌, ℕ, suc, ◌+◌, ◌<◌, ◌≤◌, Bool, true, false, cond, eqb, not, List, [], ◌∷◌, ◌++◌, map, length, get_or, Decides, ◌==◌, count_by, sym, refl, ap, ◌∙◌, subst, arith, length-append, Bor}
use Rattle.std.specs.List.{AllByRecursion, list_all}
use Rattle.std.proofs.lemmas.List.{get_or-map, length-map}
use Rattle.std.proofs.lemmas.List.Recursion.{is_sum_by}
use Rattle.std.proofs.lemmas.Bool.{cond-true, cond-false, eqb-true, eq-eqb, or_parts, and_parts, not-true}
use Rattle.std.proofs.lemmas.Bool.Decides.{Decides-at}
use Rattle.text.specs.Cuts.{holds, occurrences}
use Rattle.text.specs.Arguments.{separator, onto_first, pieces, arguments, joined_by, join, Whole, LoneEmpty, Carried, JoinsBack, CutsBack}

module _ (b : ℕ) where
  length_onto : (x : ℕ) (ps : List (List ℕ)) → 0 < length ps → length (onto_first x ps) ≡ length ps
  length_onto x [] h = absurd (omega arith)
  length_onto x (p ∷ ps) h = refl

  count_at : (t : Bool) (x : ℕ) (ps : List (List ℕ)) (n : ℕ) → length ps ≡ n + 1 → length (cond t ([] ∷ ps) (onto_first x ps)) ≡ cond t 1 0 + n + 1
  count_at true x ps n e = omega arith
  count_at false x ps n e = length_onto x ps (omega arith) ∙ omega arith

  -- one piece more than there are b's
  pub length-pieces : (bs : List ℕ) → length (pieces b bs) ≡ occurrences b bs + 1
  length-pieces [] = refl
  length-pieces (x ∷ xs) = count_at (eqb x b) x (pieces b xs) (occurrences b xs) (length-pieces xs)

  pub pieces_some : (bs : List ℕ) → 0 < length (pieces b bs)
  pieces_some bs = omega (arith, length-pieces bs)

  joined_empty : (ps : List (List ℕ)) → 0 < length ps → joined_by b ([] ∷ ps) ≡ b ∷ joined_by b ps
  joined_empty [] h = absurd (omega arith)
  joined_empty (p ∷ ps) h = refl

  joined_onto : (x : ℕ) (ps : List (List ℕ)) → 0 < length ps → joined_by b (onto_first x ps) ≡ x ∷ joined_by b ps
  joined_onto x [] h = absurd (omega arith)
  joined_onto x (p ∷ []) h = refl
  joined_onto x (p ∷ q ∷ ps) h = refl

  joined_at : (t : Bool) (x : ℕ) (xs : List ℕ) (ps : List (List ℕ)) → (t ≡ true → x ≡ b) → 0 < length ps → joined_by b ps ≡ xs → joined_by b (cond t ([] ∷ ps) (onto_first x ps)) ≡ x ∷ xs
  joined_at true x xs ps is h e = joined_empty ps h ∙ ap (λ l. b ∷ l) e ∙ ap (λ y. y ∷ xs) (sym (is refl))
  joined_at false x xs ps is h e = joined_onto x ps h ∙ ap (λ l. x ∷ l) e

  pub joined-pieces : (bs : List ℕ) → joined_by b (pieces b bs) ≡ bs
  joined-pieces [] = refl
  joined-pieces (x ∷ xs) = joined_at (eqb x b) x xs (pieces b xs) (eqb-true x b) (pieces_some xs) (joined-pieces xs)

  onto_whole : (x : ℕ) (ps : List (List ℕ)) → eqb x b ≡ false → AllByRecursion (Whole b) ps → AllByRecursion (Whole b) (onto_first x ps)
  onto_whole x [] ne all = (rw ne, tt)
  onto_whole x (p ∷ ps) ne all = (rw ne all.0, all.1)

  whole_at : (t : Bool) (x : ℕ) (ps : List (List ℕ)) → eqb x b ≡ t → AllByRecursion (Whole b) ps → AllByRecursion (Whole b) (cond t ([] ∷ ps) (onto_first x ps))
  whole_at true x ps e all = (refl, all)
  whole_at false x ps e all = onto_whole x ps e all

  pub pieces_whole : (bs : List ℕ) → AllByRecursion (Whole b) (pieces b bs)
  pieces_whole [] = (refl, tt)
  pieces_whole (x ∷ xs) = whole_at (eqb x b) x (pieces b xs) refl (pieces_whole xs)

  pub pieces_one : (p : List ℕ) → Whole b p → pieces b p ≡ p ∷ []
  pieces_one [] h = refl
  pieces_one (x ∷ xs) h = let parts = or_parts (eqb x b) (holds b xs) h in cond-false _ _ _ parts.0 ∙ ap (onto_first x) (pieces_one xs parts.1)

  pub pieces_cut : (p rest : List ℕ) → Whole b p → pieces b (p ++ b ∷ rest) ≡ p ∷ pieces b rest
  pieces_cut [] rest h = cond-true _ _ _ (eq-eqb b b refl)
  pieces_cut (x ∷ xs) rest h = let parts = or_parts (eqb x b) (holds b xs) h in cond-false _ _ _ parts.0 ∙ ap (onto_first x) (pieces_cut xs rest parts.1)

  pub pieces-joined : (p : List ℕ) (ps : List (List ℕ)) → AllByRecursion (Whole b) (p ∷ ps) → pieces b (joined_by b (p ∷ ps)) ≡ p ∷ ps
  pieces-joined p [] all = pieces_one p all.0
  pieces-joined p (q ∷ ps) all = pieces_cut p (joined_by b (q ∷ ps)) all.0 ∙ ap (λ l. p ∷ l) (pieces-joined q ps all.1)

pub joins_back : (text : List ℕ) → JoinsBack text
joins_back [] = refl
joins_back (x ∷ xs) = joined-pieces separator (x ∷ xs)

pub arguments_some : (bs : List ℕ) → 0 < length bs → arguments bs ≡ pieces separator bs
arguments_some [] h = absurd (omega arith)
arguments_some (x ∷ xs) h = refl

pub arguments_whole : (bs : List ℕ) → AllByRecursion (Whole separator) (arguments bs)
arguments_whole [] = tt
arguments_whole (x ∷ xs) = pieces_whole separator (x ∷ xs)

pub length-arguments : (bs : List ℕ) → 0 < length bs → length (arguments bs) ≡ occurrences separator bs + 1
length-arguments bs h = ap length (arguments_some bs h) ∙ length-pieces separator bs

pub occurrences-le-length : (b : ℕ) (bs : List ℕ) → occurrences b bs ≤ length bs
occurrences-le-length b [] = omega arith
occurrences-le-length b (x ∷ xs) = let rest = occurrences-le-length b xs in elim (eqb x b) as (λ t. cond t 1 0 + occurrences b xs ≤ suc (length xs)) [ true ↦ omega arith | false ↦ omega arith ]

pub arguments_few : (bs : List ℕ) → length (arguments bs) ≤ length bs + 1
arguments_few [] = omega arith
arguments_few (x ∷ xs) = omega (arith, length-pieces separator (x ∷ xs), occurrences-le-length separator (x ∷ xs))

pub cuts_back : (list : List (List ℕ)) → AllByRecursion (Whole separator) list → (LoneEmpty list → ⊥) → CutsBack list
cuts_back [] all more = refl
cuts_back ([] ∷ []) all more = absurd (more refl)
cuts_back ((x ∷ xs) ∷ []) all more = pieces_one separator (x ∷ xs) all.0
cuts_back (a ∷ c ∷ cs) all more =
    arguments_some (join (a ∷ c ∷ cs)) (simp length-append (omega arith)) ∙ pieces-joined separator a (c ∷ cs) all

pub cuts_back_whole : (list : List (List ℕ)) → CutsBack list → AllByRecursion (Whole separator) list
cuts_back_whole list e = subst (AllByRecursion (Whole separator)) e (arguments_whole (join list))

-- a list that cutting gives back is not one empty argument
pub cuts_back_more : (list : List (List ℕ)) → CutsBack list → LoneEmpty list → ⊥
cuts_back_more list e lone = let z : ◌≡◌ {A = ℕ} 0 1 = ap (λ l. length (arguments (join l))) (sym lone) ∙ ap length e ∙ ap length lone in omega arith

module _ (xs : List (Bor (List ℕ))) where
  pub lone_length : LoneEmpty (map (λ x. x.now) xs) → length xs ≡ 1
  lone_length lone = sym (length-map xs (λ x. x.now)) ∙ ap length lone

  pub lone_first : LoneEmpty (map (λ x. x.now) xs) → (d : Bor (List ℕ)) → length (get_or xs 0 d).now ≡ 0
  lone_first lone d = ap length (sym (get_or-map (λ x. x.now) xs 0 d d.now (omega (arith, lone_length lone))) ∙ ap (λ l. get_or l 0 d.now) lone)

  pub whole_told : Decides (list_all (λ x. not (holds separator x.now)) xs) (AllByRecursion (Whole separator) (map (λ x. x.now) xs))
  whole_told = told_at xs
    where
      told_at : (ys : List (Bor (List ℕ))) → Decides (list_all (λ x. not (holds separator x.now)) ys) (AllByRecursion (Whole separator) (map (λ x. x.now) ys))
      told_at [] = (λ _. tt, λ _. refl)
      told_at (y ∷ ys) = (λ t. let p = and_parts (not (holds separator y.now)) _ t in (not-true _ p.0, (told_at ys).0 p.1), λ all. rw (all.0, (told_at ys).1 all.1))

  -- the two answers of `can_join`, where the list is not one empty argument
  pub joins_told : (r : Bool) → r ≡ list_all (λ x. not (holds separator x.now)) xs → (LoneEmpty (map (λ x. x.now) xs) → ⊥) → Decides r (Carried (map (λ x. x.now) xs)) × Decides r (CutsBack (map (λ x. x.now) xs))
  joins_told r is more =
      let told = Decides-at r _ is whole_told in
      ((λ e. (told.0 e, more), λ carried. told.1 carried.0), (λ e. cuts_back _ (told.0 e) more, λ back. told.1 (cuts_back_whole _ back)))

-- the separators of a text, counted by a test of each byte
module _ (text : List ℕ) (n : ℕ) (counted : n ≡ count_by (λ x. x == separator) text) where
  pub separators_counted : n ≡ occurrences separator text
  separators_counted = counted ∙ sym (is_sum_by (occurrences separator) (λ x. cond (x == separator) 1 0) refl (λ _ _. refl) text)

  pub arguments_counted : 0 < length text → n + 1 ≡ length (arguments text)
  arguments_counted some = ap (λ m. m + 1) separators_counted ∙ sym (length-arguments text some)
