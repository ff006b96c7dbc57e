-- Laws of reading a word, over any set. Assumes nothing.
use Rattle.std.proofs.Common.{◌≡◌, ℕ, ◌+◌, ◌<◌, ◌≤◌, Bool, true, false, List, [], ◌∷◌, length, drop, Option, Some, None, sym, refl, ap, subst, ◌∙◌, ⊎_elim, arith}
use Rattle.std.specs.List.{AllByRecursion, slice_get}
use Rattle.std.specs.Bool.{then_some}
use Rattle.std.specs.Option.{MatchOption}
use Rattle.std.specs.Str.{bytes_eq}
use Rattle.std.proofs.lemmas.Slice.Eq.{bytes_eq-Decides}
use Rattle.std.proofs.lemmas.List.{drop_all, at_drop_more}
use Rattle.std.proofs.lemmas.Option.{slice_get_within, get_or_from_slice_get, slice_get_cases}
use Rattle.std.proofs.lemmas.Bool.{cases_Bool, cases_lt, cond-true, cond-false, both_ways}
use Rattle.words.specs.Reading.{read, longest, clean, ReadsExactly}

other_bytes : (xs ys : List ℕ) → (xs ≡ ys → ⊥) → bytes_eq xs ys ≡ false
other_bytes xs ys ne = ⊎_elim (λ t. absurd (ne ((bytes_eq-Decides xs ys).0 t))) (λ f. f) (cases_Bool (bytes_eq xs ys))

module _ {W : Type 0} (spelled : W → List ℕ) where
  -- longer than each spelling
  pub read_longer : (ws : List W) (bs : List ℕ) → longest ws spelled < length bs → read ws spelled bs ≡ None
  read_longer [] bs h = refl
  read_longer (w ∷ ws) bs h = cond-false _ _ _ (other_bytes (spelled w) bs (λ e. absurd (omega (arith, ap length e)))) ∙ read_longer ws bs (omega arith)

  pub read_past : (ws : List W) (bs : List ℕ) (n : ℕ) → length ws ≤ n → read (drop n ws) spelled bs ≡ None
  read_past ws bs n h = ap (λ l. read l spelled bs) (drop_all n ws h)

  -- no spelling is empty
  pub read_nothing : ((w : W) → clean (spelled w) ≡ true) → (ws : List W) → read ws spelled [] ≡ None
  read_nothing cleans [] = refl
  read_nothing cleans (w ∷ ws) = cond-false _ _ _ (other_bytes (spelled w) [] (λ e. both_ways _ (ap clean e) (cleans w))) ∙ read_nothing cleans ws

  spelled_by : (ws : List W) (bs : List ℕ) (w : W) → read ws spelled bs ≡ Some w → bs ≡ spelled w
  spelled_by [] bs w e = absurd cc
  spelled_by (v ∷ ws) bs w e = ⊎_elim
      (λ t. let f : Some v ≡ Some w = sym (cond-true _ _ _ t) ∙ e in let same : v ≡ w = cc in sym ((bytes_eq-Decides (spelled v) bs).0 t) ∙ ap spelled same)
      (λ t. spelled_by ws bs w (sym (cond-false _ _ _ t) ∙ e))
      (cases_Bool (bytes_eq (spelled v) bs))

  -- what is read is one of the words, and spelled so
  pub read_one : (P : W → Type 0) (ws : List W) → AllByRecursion P ws → (bs : List ℕ) (w : W) → read ws spelled bs ≡ Some w → P w × (bs ≡ spelled w)
  read_one P [] ps bs w e = absurd cc
  read_one P (v ∷ ws) ps bs w e = ⊎_elim
      (λ t. let f : Some v ≡ Some w = sym (cond-true _ _ _ t) ∙ e in let same : v ≡ w = cc in (subst P same ps.0, spelled_by (v ∷ ws) bs w e))
      (λ t. read_one P ws ps.1 bs w (sym (cond-false _ _ _ t) ∙ e))
      (cases_Bool (bytes_eq (spelled v) bs))

  -- bytes read as a word exactly when they are its spelling
  pub reads_exactly : (ws : List W) → ((w : W) → read ws spelled (spelled w) ≡ Some w) → (bs : List ℕ) → ReadsExactly ws spelled bs
  reads_exactly ws reads bs w = (spelled_by ws bs w, λ e. ap (read ws spelled) e ∙ reads w)

  drop_here : (ws : List W) (i : ℕ) (w : W) → slice_get ws i ≡ Some w → drop i ws ≡ w ∷ drop (i + 1) ws
  drop_here ws i w e = at_drop_more (λ l. l) ws i w (slice_get_within ws i w e) ∙ ap (λ v. v ∷ drop (i + 1) ws) (get_or_from_slice_get ws i w w e)

  -- no spelling is longer than the longest
  pub spelling_fits : (ws : List W) → ((w : W) → read ws spelled (spelled w) ≡ Some w) → (w : W) → length (spelled w) ≤ longest ws spelled
  spelling_fits ws reads w = ⊎_elim
      (λ h. absurd (let e = sym (read_longer ws (spelled w) h) ∙ reads w in cc))
      (λ h. h)
      (cases_lt (longest ws spelled) (length (spelled w)))

  -- one place on, where t is whether the spelling s of the word there is bs
  module _ (ws : List W) (i : ℕ) (bs : List ℕ) where
    module _ (w : W) (here : slice_get ws i ≡ Some w) {s : List ℕ} {t : Bool} (is : s ≡ spelled w) (told : t ≡ bytes_eq s bs) where
      tested : bytes_eq (spelled w) bs ≡ t
      tested = ap (λ l. bytes_eq l bs) (sym is) ∙ sym told

      pub read_here : t ≡ true → read (drop i ws) spelled bs ≡ Some w
      read_here yes' = ap (λ l. read l spelled bs) (drop_here ws i w here) ∙ cond-true _ _ _ (tested ∙ yes')

      pub read_other : t ≡ false → read (drop i ws) spelled bs ≡ read (drop (i + 1) ws) spelled bs
      read_other no' = ap (λ l. read l spelled bs) (drop_here ws i w here) ∙ cond-false _ _ _ (tested ∙ no')

    pub read_none : slice_get ws i ≡ None → read (drop i ws) spelled bs ≡ read (drop (i + 1) ws) spelled bs
    read_none e = ⊎_elim
        (λ p. absurd (let same = sym e ∙ p.2 in cc))
        (λ p. read_past ws bs i p.0 ∙ sym (read_past ws bs (i + 1) (omega (arith, p.0))))
        (slice_get_cases ws i).1

    abbrev Tells : Option W → Type 0
    Tells r = elim r as (λ x. Type 0) [ Some w ↦ read (drop i ws) spelled bs ≡ Some w | None ↦ read (drop i ws) spelled bs ≡ read (drop (i + 1) ws) spelled bs ]

    -- the word there, if its test says so
    pub read_filtered : {Told : W → Bool → Type 0} → ((w : W) (t : Bool) → Told w t → t ≡ bytes_eq (spelled w) bs) → (o r : Option W) → o ≡ slice_get ws i → MatchOption o (r ≡ None) (λ w. (t : Bool) × Told w t × (r ≡ then_some t w)) → Tells r
    read_filtered told None r e h = rw h (read_none (sym e))
    read_filtered told (Some w) r e (true, t, f) = rw f (read_here w (sym e) refl (told w true t) refl)
    read_filtered told (Some w) r e (false, t, f) = rw f (read_other w (sym e) refl (told w false t) refl)
