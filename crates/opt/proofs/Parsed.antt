-- A year, as the library's `parse` reads it. Assumes nothing.
use Rattle.std.proofs.Common.{rules, ◌≡◌, ◌≢◌, ℕ, zero, suc, ◌+◌, ◌-◌, ◌*◌, ◌<◌, ◌≤◌, le_refl, get_or, ◌^◌, Bool, true, false, cond, ◌&&◌, leb, eqb, List, [], ◌∷◌, length, Some, None, Option, Result, Ok, Err, refl, sym, ap, ◌∙◌, arith}
use Rattle.std.specs.Result.{OkIff, result_ok, MatchResult}
use Rattle.std.specs.Str.{IsUtf8, IsAscii}
use Rattle.std.specs.Str.Parse.{ParsesUnsigned}
use Rattle.std.proofs.lemmas.Bool.Decides.{nat_tests}
use Rattle.std.specs.Borrow.{Bor}
use Rattle.std.specs.Option.{unwrap_or}
use Rattle.std.specs.Prelude.{MatchOption}
use Rattle.std.proofs.lemmas.Bool.{eqb-true, eqb-false, lt-leb}
use Rattle.std.proofs.lemmas.Fmt.{IsAscii-from_digits}
use Rattle.std.proofs.lemmas.Str.{IsUtf8-append, IsUtf8-from_ascii}
use Rattle.std.proofs.lemmas.Str.Parse.{IsNumeralModel, numerals_by_fold, parse_plain, parse_plus}
use Rattle.opt.specs.Opt.{plus, unsigned, is_digit, all_digits, decimal, number_from, year_of}

own : IsNumeralModel (λ ds. all_digits ds ≡ true) (decimal 0)
own = numerals_by_fold _ (search rules) decimal (search rules)

declined : (z a b : Bool) (n : ℕ) → (a ≡ true → z ≡ false → b ≡ true → ⊥) → ◌≡◌ {A = Option ℕ} None (cond z None (cond (a && b) (Some n) None))
declined true a b n h = refl
declined false false b n h = refl
declined false true false n h = refl
declined false true true n h = absurd (h refl refl refl)

told : {E : Type 0} (d : List ℕ) (r : Result ℕ E) → OkIff r ((all_digits d ≡ true) × (0 < length d) × (decimal 0 d < 2 ^ 16)) (decimal 0 d) → result_ok r ≡ year_of d
told d (Ok x) h =
    let some : eqb (length d) 0 ≡ false = grind (arith, nat_tests) in
    let digits : all_digits d ≡ true = h.0.0 in
    let fits : leb (decimal 0 d) 65535 ≡ true = grind (arith, nat_tests) in
    rw (h.1, some, digits, fits) refl
told d (Err e) h = declined (eqb (length d) 0) (all_digits d) (leb (decimal 0 d) 65535) (decimal 0 d) (λ a z b. h (a, grind (arith, nat_tests), grind (arith, nat_tests)))

parsed_first : {E : Type 0} (x : ℕ) (xs : List ℕ) (r : Result ℕ E) → ParsesUnsigned 16 10 (x ∷ xs) r → (t : Bool) → eqb x plus ≡ t → result_ok r ≡ year_of (unwrap_or (cond t (Some xs) None) (x ∷ xs))
parsed_first x xs r h true e = told xs r (parse_plus own 16 (x ∷ xs) r h (eqb-true x plus e))
parsed_first x xs r h false e = told (x ∷ xs) r (parse_plain own 16 (x ∷ xs) r h (eqb-false x plus e))

parsed : {E : Type 0} (bs : List ℕ) (r : Result ℕ E) → ParsesUnsigned 16 10 bs r → result_ok r ≡ year_of (unsigned bs)
parsed [] r h = told [] r (parse_plain own 16 [] r h (λ e. absurd (omega arith)))
parsed (x ∷ xs) r h = parsed_first x xs r h (eqb x plus) refl

digits_are_text : (ds : List ℕ) → all_digits ds ≡ true → IsUtf8 ds
digits_are_text ds a = IsUtf8-from_ascii ds (IsAscii-from_digits ds (own.to ds a))

plus_is_ascii : IsAscii (43 ∷ [])
plus_is_ascii zero = omega arith
plus_is_ascii (suc i) = omega arith

plus_is_text : IsUtf8 (43 ∷ [])
plus_is_text = IsUtf8-from_ascii (43 ∷ []) plus_is_ascii

no_text_first : (x : ℕ) (xs : List ℕ) → (IsUtf8 (x ∷ xs) → ⊥) → (t : Bool) → eqb x plus ≡ t → None ≡ year_of (unwrap_or (cond t (Some xs) None) (x ∷ xs))
no_text_first x xs h true e =
    let first : x ≡ 43 = eqb-true x plus e in
    declined (eqb (length xs) 0) (all_digits xs) (leb (decimal 0 xs) 65535) (decimal 0 xs) (λ a z b. h (rw first (IsUtf8-append (43 ∷ []) xs plus_is_text (digits_are_text xs a))))
no_text_first x xs h false e = declined (eqb (length (x ∷ xs)) 0) (all_digits (x ∷ xs)) (leb (decimal 0 (x ∷ xs)) 65535) (decimal 0 (x ∷ xs)) (λ a z b. h (digits_are_text (x ∷ xs) a))

no_text : (bs : List ℕ) → (IsUtf8 bs → ⊥) → None ≡ year_of (unsigned bs)
no_text [] h = refl
no_text (x ∷ xs) h = no_text_first x xs h (eqb x plus) refl

pub not_read : {A E : Type 0} (P : A → Type 0) (Q : E → Type 0) (bs : List ℕ) (r : Result A E) → MatchResult r P (λ e. (IsUtf8 bs → ⊥) × Q e) → result_ok r ≡ None → None ≡ year_of (unsigned bs)
not_read P Q bs (Ok x) m e = cc
not_read P Q bs (Err x) m e = no_text bs m.0

pub read : {E F : Type 0} (Q : E → Type 0) (bs : List ℕ) (t : Result (Bor (List ℕ)) E) (s : Bor (List ℕ)) (r : Result ℕ F) → MatchResult t (λ s. (s.now ≡ bs) × IsUtf8 bs) Q → result_ok t ≡ Some s → ParsesUnsigned 16 10 s.now r → result_ok r ≡ year_of (unsigned bs)
read Q bs (Ok x) s r m e h = let same : x ≡ s = cc in parsed s.now r h ∙ ap (λ t. year_of (unsigned t)) (sym (ap (λ t. t.now) same) ∙ m.0)
read Q bs (Err x) s r m e h = cc

-- digits only raise a number
raises : (n : ℕ) (bs : List ℕ) → n ≤ decimal n bs
raises n [] = le_refl n
raises n (b ∷ bs) = omega (arith, raises (10 * n + (b - 48)) bs)

-- five digits behind a number that is not 0
over : (n : ℕ) (bs : List ℕ) → 0 < n → 5 ≤ length bs → 65535 < decimal n bs
over n (a ∷ b ∷ c ∷ d ∷ e ∷ bs) some five = omega (arith, raises (10 * (10 * (10 * (10 * (10 * n + (a - 48)) + (b - 48)) + (c - 48)) + (d - 48)) + (e - 48)) bs)
over n [] some five = absurd (omega arith)
over n (a ∷ []) some five = absurd (omega arith)
over n (a ∷ b ∷ []) some five = absurd (omega arith)
over n (a ∷ b ∷ c ∷ []) some five = absurd (omega arith)
over n (a ∷ b ∷ c ∷ d ∷ []) some five = absurd (omega arith)

no_number : (t all fits : Bool) (n : ℕ) → (t ≡ true → fits ≡ false) → None ≡ cond ((t && all) && fits) (Some n) None
no_number false all fits n h = refl
no_number true false fits n h = refl
no_number true true fits n h = rw (h refl) refl

past_zeros : (bs : List ℕ) (i : ℕ) → i < length bs → get_or bs i 0 ≢ 48 → ((k : ℕ) → k < i → get_or bs k 0 ≡ 48) → 5 < length bs - i → None ≡ number_from 0 bs
past_zeros [] i in' other zeros long = absurd (omega arith)
past_zeros (x ∷ xs) zero in' other zeros long =
    no_number (is_digit x) (all_digits xs) (leb (decimal (10 * 0 + (x - 48)) xs) 65535) (decimal (10 * 0 + (x - 48)) xs)
    (λ t. let first : 48 ≤ x = grind (arith, nat_tests) in lt-leb (decimal (10 * 0 + (x - 48)) xs) 65535 (over (10 * 0 + (x - 48)) xs (omega arith) (omega arith)))
past_zeros (x ∷ xs) (suc i) in' other zeros long =
    past_zeros xs i (omega arith) other (λ k h. zeros (suc k) (omega arith)) (omega arith) ∙ ap (λ z. number_from 0 (z ∷ xs)) (sym (zeros 0 (omega arith)))

no_year : (bs : List ℕ) → None ≡ number_from 0 bs → None ≡ year_of bs
no_year bs e = by (eqb (length bs) 0)
  where
    by : (t : Bool) → None ≡ cond t None (number_from 0 bs)
    by true = refl
    by false = e

-- a search for the first byte that is no zero, with more than five from there on
pub long_told : (bs : List ℕ) (r : Option ℕ) → MatchOption r ((k : ℕ) → k < length bs → get_or bs k 0 ≡ 48) (λ i. (i < length bs) × (get_or bs i 0 ≢ 48) × ((k : ℕ) → k < i → get_or bs k 0 ≡ 48)) → (i : ℕ) → r ≡ Some i → 5 < length bs - i → None ≡ year_of bs
long_told bs None told i is over = cc
long_told bs (Some j) told i is over = let same : j ≡ i = cc in no_year bs (past_zeros bs j told.0 told.1 told.2 (rw same over))
