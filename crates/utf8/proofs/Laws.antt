-- Laws of well-formed UTF-8. Assumes nothing.
use Rattle.std.proofs.Common.{◌≡◌, ℕ, suc, ◌+◌, ◌<◌, ◌≤◌, Bool, true, false, cond, ◌&&◌, ltb, leb, List, [], ◌∷◌, ◌++◌, length, get_or, drop, Some, None, Decides, Option, sym, refl, ap, ◌∙◌, subst, ⊎_elim, arith}
use mathlib.Core.Bool.{or-false}
use Rattle.std.specs.List.{flat_map, AllByRecursion}
use Rattle.std.proofs.lemmas.List.{at_drop_more}
use Rattle.std.proofs.lemmas.Bool.{and_parts, or_cases, both_ways, cases_Bool, leb-true}
use Rattle.std.proofs.lemmas.Bool.Decides.{nat_tests}
use Rattle.utf8.specs.Utf8.{Range, within, ◌to◌, table, fits, some_row_fits, Character, Characters, begun, behind, utf8_from, utf8}

-- One byte on.

from_step : (row : List Range) (b : ℕ) (bs : List ℕ) → utf8_from (Some row) (b ∷ bs) ≡ utf8_from (behind row b) bs
from_step [] b bs = refl
from_step (r ∷ row) b bs = refl

-- the same in a list that is walked by its index
pub walk_more : (row : List Range) (bs : List ℕ) (i : ℕ) (next : Option (List Range)) → i < length bs → next ≡ behind row (get_or bs i 0) → utf8_from (Some row) (drop i bs) ≡ utf8_from next (drop (i + 1) bs)
walk_more row bs i next h e =
    at_drop_more (utf8_from (Some row)) bs i 0 h ∙ from_step row (get_or bs i 0) (drop (i + 1) bs) ∙ ap (λ (o : Option (List Range)). utf8_from o (drop (i + 1) bs)) (sym e)

-- One text behind another.

append_from : (o : Option (List Range)) (xs ys : List ℕ) → utf8_from o xs ≡ true → utf8 ys ≡ true → utf8_from o (xs ++ ys) ≡ true
unfolding utf8
append_from None xs ys h k = h
append_from (Some []) [] ys h k = k
append_from (Some (r ∷ row)) [] ys h k = absurd (both_ways false refl h)
append_from (Some []) (x ∷ xs) ys h k = append_from (behind [] x) xs ys h k
append_from (Some (r ∷ row)) (x ∷ xs) ys h k = append_from (behind (r ∷ row) x) xs ys h k

pub utf8_append : (xs ys : List ℕ) → utf8 xs ≡ true → utf8 ys ≡ true → utf8 (xs ++ ys) ≡ true
unfolding utf8
utf8_append xs ys h k = append_from (Some []) xs ys h k

-- The rows begin with ranges that lie one above the other, so the first row with the first byte is the only one.

abbrev above : ℕ → List (List Range) → Bool
above n [] = true
above n ([] ∷ rows) = above n rows
above n ((r ∷ row) ∷ rows) = ltb n r.first && above n rows

abbrev apart : List (List Range) → Bool
apart [] = true
apart ([] ∷ rows) = apart rows
apart ((r ∷ row) ∷ rows) = above r.last rows && apart rows

-- the bytes fill what is owed
abbrev fills : Option (List Range) → List ℕ → Bool
fills None d = false
fills (Some row) d = fits row d

none_above : (n : ℕ) (rows : List (List Range)) (b : ℕ) (d : List ℕ) → above n rows ≡ true → b ≤ n → some_row_fits rows (b ∷ d) ≡ false
none_above n [] b d h l = refl
none_above n ([] ∷ rows) b d h l = none_above n rows b d h l
none_above n ((r ∷ row) ∷ rows) b d h l =
    let t = and_parts (ltb n r.first) (above n rows) h in
    let rest = none_above n rows b d t.1 l in
    grind (arith, nat_tests)

begun_fits : (rows : List (List Range)) (b : ℕ) (d : List ℕ) → apart rows ≡ true → fills (begun rows b) d ≡ some_row_fits rows (b ∷ d)
begun_fits [] b d h = refl
begun_fits ([] ∷ rows) b d h = begun_fits rows b d h
begun_fits ((r ∷ row) ∷ rows) b d h =
    let t = and_parts (above r.last rows) (apart rows) h in
    let rest = begun_fits rows b d t.1 in
    ⊎_elim
    (λ e.
    let below : b ≤ r.last = leb-true b r.last (and_parts (leb r.first b) (leb b r.last) e).1 in
    let none = none_above r.last rows b d t.0 below in
    rw (e, none) (sym (or-false (fits row d))))
    (λ e. rw e rest) (cases_Bool (within r b))

behind_fits : (r : Range) (row : List Range) (b : ℕ) (d : List ℕ) → fills (behind (r ∷ row) b) d ≡ fits (r ∷ row) (b ∷ d)
behind_fits r row b d =
    elim (within r b) as (λ t. fills (cond t (Some row) None) d ≡ (t && fits row d)) [ true ↦ refl | false ↦ refl ]

-- From the test to the characters and back.

-- the bytes are what is owed, and then characters
abbrev Filled : Option (List Range) → List ℕ → Type 0
Filled o bs = (d : List ℕ) × (cs : List (List ℕ)) × (fills o d ≡ true) × AllByRecursion Character cs × (d ++ flat_map (λ c. c) cs ≡ bs)

filled : (o : Option (List Range)) (bs : List ℕ) → utf8_from o bs ≡ true → Filled o bs
filled None bs h = absurd (both_ways false refl h)
filled (Some []) [] h = ([], [], refl, tt, refl)
filled (Some (r ∷ row)) [] h = absurd (both_ways false refl h)
filled (Some []) (b ∷ bs) h =
    let f = filled (begun table b) bs h in
    ([], (b ∷ f.0) ∷ f.1, refl, (sym (begun_fits table b f.0 refl) ∙ f.2, f.3), ap (λ (l : List ℕ). b ∷ l) f.4)
filled (Some (r ∷ row)) (b ∷ bs) h =
    let f = filled (behind (r ∷ row) b) bs h in
    (b ∷ f.0, f.1, sym (behind_fits r row b f.0) ∙ f.2, f.3, ap (λ (l : List ℕ). b ∷ l) f.4)

from_fills : (o : Option (List Range)) (d : List ℕ) → fills o d ≡ true → utf8_from o d ≡ true
from_fills None d h = h
from_fills (Some []) [] h = refl
from_fills (Some (r ∷ row)) [] h = h
from_fills (Some []) (b ∷ d) h = absurd (both_ways false refl h)
from_fills (Some (r ∷ row)) (b ∷ d) h = from_fills (behind (r ∷ row) b) d (behind_fits r row b d ∙ h)

pub utf8_character : (c : List ℕ) → Character c → utf8 c ≡ true
unfolding utf8
utf8_character [] h = refl
utf8_character (b ∷ d) h = from_fills (begun table b) d (begun_fits table b d refl ∙ h)

utf8-joined : (cs : List (List ℕ)) → AllByRecursion Character cs → utf8 (flat_map (λ c. c) cs) ≡ true
unfolding utf8
utf8-joined [] h = refl
utf8-joined (c ∷ cs) h = utf8_append c (flat_map (λ c. c) cs) (utf8_character c h.0) (utf8-joined cs h.1)

to_characters : (bs : List ℕ) (f : Filled (Some []) bs) → Characters bs
to_characters bs ([], cs, e, all, j) = (cs, all, j)
to_characters bs (b ∷ d, cs, e, all, j) = absurd (both_ways false refl e)

pub utf8_characters : (bs : List ℕ) → Decides (utf8 bs) (Characters bs)
unfolding utf8
utf8_characters bs =
    (λ h. to_characters bs (filled (Some []) bs h), λ f. subst (λ (l : List ℕ). utf8 l ≡ true) f.2 (utf8-joined f.0 f.1))

-- ASCII.

ascii_within : (b : ℕ) → b < 128 → within (0x00 to 0x7F) b ≡ true
ascii_within b h = grind (arith, nat_tests)

begun_ascii : (b : ℕ) → b < 128 → begun table b ≡ Some []
begun_ascii b h = rw (ascii_within b h)

pub ascii_character : (b : ℕ) → b < 128 → Character (b ∷ [])
ascii_character b h = rw (ascii_within b h)

pub utf8_ascii : (bs : List ℕ) → AllByRecursion (λ b. b < 128) bs → utf8 bs ≡ true
unfolding utf8
utf8_ascii [] h = refl
utf8_ascii (b ∷ bs) h = ap (λ (o : Option (List Range)). utf8_from o bs) (begun_ascii b h.0) ∙ utf8_ascii bs h.1

-- A text is cut at an ASCII byte: no byte behind the first of a character is one.

abbrev high : List Range → Bool
high [] = true
high (r ∷ row) = leb 128 r.first && high row

abbrev high_owed : Option (List Range) → Bool
high_owed None = true
high_owed (Some row) = high row

abbrev high_behind : List (List Range) → Bool
high_behind [] = true
high_behind ([] ∷ rows) = high_behind rows
high_behind ((r ∷ row) ∷ rows) = high row && high_behind rows

begun_high : (rows : List (List Range)) (b : ℕ) → high_behind rows ≡ true → high_owed (begun rows b) ≡ true
begun_high [] b h = refl
begun_high ([] ∷ rows) b h = begun_high rows b h
begun_high ((r ∷ row) ∷ rows) b h =
    let t = and_parts (high row) (high_behind rows) h in
    elim (within r b) as (λ t. high_owed (cond t (Some row) (begun rows b)) ≡ true) [ true ↦ t.0 | false ↦ begun_high rows b t.1 ]

behind_high : (r : Range) (row : List Range) (b : ℕ) → high (r ∷ row) ≡ true → high_owed (behind (r ∷ row) b) ≡ true
behind_high r row b h =
    let t = and_parts (leb 128 r.first) (high row) h in
    elim (within r b) as (λ t. high_owed (cond t (Some row) None) ≡ true) [ true ↦ t.1 | false ↦ refl ]

low_outside : (r : Range) (row : List Range) (b : ℕ) → high (r ∷ row) ≡ true → b < 128 → behind (r ∷ row) b ≡ None
low_outside r row b h l = grind (arith, nat_tests)

cut_from : (o : Option (List Range)) (xs : List ℕ) (b : ℕ) (ys : List ℕ) → high_owed o ≡ true → b < 128 → utf8_from o (xs ++ b ∷ ys) ≡ (utf8_from o xs && utf8 ys)
unfolding utf8
cut_from None xs b ys h l = refl
cut_from (Some []) [] b ys h l = ap (λ (o : Option (List Range)). utf8_from o ys) (begun_ascii b l)
cut_from (Some (r ∷ row)) [] b ys h l = ap (λ (o : Option (List Range)). utf8_from o ys) (low_outside r row b h l)
cut_from (Some []) (x ∷ xs) b ys h l = cut_from (begun table x) xs b ys (begun_high table x refl) l
cut_from (Some (r ∷ row)) (x ∷ xs) b ys h l = cut_from (behind (r ∷ row) x) xs b ys (behind_high r row x h) l

pub utf8_cut : (xs : List ℕ) (b : ℕ) (ys : List ℕ) → b < 128 → utf8 (xs ++ b ∷ ys) ≡ (utf8 xs && utf8 ys)
unfolding utf8
utf8_cut xs b ys l = cut_from (Some []) xs b ys refl l

-- How long a character is.

abbrev lengths : ℕ → ℕ → List (List Range) → Bool
lengths m n [] = true
lengths m n (row ∷ rows) = (leb m (length row) && leb (length row) n) && lengths m n rows

fits_length : (row : List Range) (bs : List ℕ) → fits row bs ≡ true → length bs ≡ length row
fits_length [] [] h = refl
fits_length [] (b ∷ bs) h = absurd (both_ways false refl h)
fits_length (r ∷ row) [] h = absurd (both_ways false refl h)
fits_length (r ∷ row) (b ∷ bs) h = ap suc (fits_length row bs (and_parts (within r b) (fits row bs) h).1)

some_row_length : (m n : ℕ) (rows : List (List Range)) (bs : List ℕ) → lengths m n rows ≡ true → some_row_fits rows bs ≡ true → (m ≤ length bs) × (length bs ≤ n)
some_row_length m n [] bs t h = absurd (both_ways false refl h)
some_row_length m n (row ∷ rows) bs t h =
    let p = and_parts (leb m (length row) && leb (length row) n) (lengths m n rows) t in
    let q = and_parts (leb m (length row)) (leb (length row) n) p.0 in
    let low = leb-true m (length row) q.0 in
    let up = leb-true (length row) n q.1 in
    ⊎_elim (λ f. omega (arith, fits_length row bs f)) (λ f. some_row_length m n rows bs p.1 f) (or_cases (fits row bs) (some_row_fits rows bs) h)

pub character_length : (bs : List ℕ) → Character bs → (0 < length bs) × (length bs ≤ 4)
character_length bs h = some_row_length 1 4 table bs refl h
