-- The check's tests say what good rows are. Assumes nothing.
use Rattle.std.proofs.Common.{◌≡◌, ℕ, zero, suc, ◌+◌, ◌<◌, ◌≤◌, Bool, true, false, cond, not, ◌&&◌, eqb, ltb, leb, List, [], ◌∷◌, length, drop, get_or, is_some, is_ok, Some, None, Ok, Err, Option, Result, sym, refl, ap, ◌∙◌, subst, ⊎_elim, arith, length-drop, length-take}
use Rattle.std.specs.List.{slice_get, list_all}
use Rattle.std.specs.Option.{option_map}
use Rattle.std.specs.Str.{bytes_eq}
use Rattle.std.proofs.lemmas.List.Sums.{AllPass-from_list_all, list_all-from_AllPass}
use Rattle.std.proofs.lemmas.Option.{get_or_from_slice_get, same_Some, slice_get-get_or, slice_get_cases}
use Rattle.std.proofs.lemmas.Slice.Eq.{bytes_eq-Decides}
use Rattle.std.proofs.lemmas.Bool.{and_parts, and_from, or_parts, or_from, both_ways, cases_Bool, cond-true, cond-false, eqb-true, eqb-false, eq-eqb, ne_eqb, leb-true, le-leb, ltb-true, lt-ltb, not-true, not_from_false}
use Rattle.text.specs.Cuts.{begins}
use Rattle.text.specs.declared.refusals.Refusal.{Refusal}
use Rattle.text.specs.declared.refusals.Refusal.TheVariants.{BadRow, NameTwice, HomeMissing}
use Rattle.flags.specs.Codes.{about, code_of}
use Rattle.flags.specs.declared.kinds.Code.{Code}
use Rattle.flags.specs.declared.kinds.Code.TheVariants.{Of}
use Rattle.flags.specs.declared.kinds.Kind.{Kind}
use Rattle.rows.proofs.Coded.{is_code}
use Rattle.rows.specs.Good.{GoodRow, OwnHome, Good, TellsGood}
use Rattle.rows.specs.Rows.{name_of, row_at, number_at, name_byte, good_name, inside, good_row, in_order, well_placed, names_twice, home_name, is_number, has_home, row_home, homes, verdict}
use Rattle.rows.specs.declared.rows.Row.{Row}

-- Lists by their places.

module _ {X : Type 0} where
  module _ (test : X → Bool) where
    every_there : (xs : List X) → list_all test xs ≡ true → (i : ℕ) (x : X) → slice_get xs i ≡ Some x → test x ≡ true
    every_there xs all i x e = ⊎_elim
        (λ there. ap test (sym (get_or_from_slice_get xs i x x e)) ∙ AllPass-from_list_all test xs all i x there.1)
        (λ past. absurd (both_ways true (ap is_some (sym e ∙ past.1)) refl))
        (slice_get_cases xs i).1

    every_from : (xs : List X) → ((i : ℕ) (x : X) → slice_get xs i ≡ Some x → test x ≡ true) → list_all test xs ≡ true
    every_from xs f = list_all-from_AllPass test xs (λ i d within. f i (get_or xs i d) (slice_get-get_or xs i d within))

-- Order.

abbrev Apart : List Row → Type 0
Apart rows = (i j : ℕ) (a b : Row) → i < j → slice_get rows i ≡ Some a → slice_get rows j ≡ Some b → a.offset + a.length ≤ b.offset

behind_place : (place : ℕ) (rows : List Row) → in_order place rows ≡ true → (j : ℕ) (b : Row) → slice_get rows j ≡ Some b → place ≤ b.offset
behind_place place [] o j b e = absurd (cc)
behind_place place (row ∷ rows) o zero b e = subst (λ (r : Row). place ≤ r.offset) (same_Some row b e) (leb-true place row.offset (and_parts (leb place row.offset) (in_order (row.offset + row.length) rows) o).0)
behind_place place (row ∷ rows) o (suc j) b e =
    let parts = and_parts (leb place row.offset) (in_order (row.offset + row.length) rows) o in
    let here : place ≤ row.offset = leb-true place row.offset parts.0 in
    let later : row.offset + row.length ≤ b.offset = behind_place (row.offset + row.length) rows parts.1 j b e in
    omega arith

apart_from : (place : ℕ) (rows : List Row) → in_order place rows ≡ true → Apart rows
apart_from place [] o i j a b l e f = absurd (cc)
apart_from place (row ∷ rows) o zero zero a b l e f = absurd (omega arith)
apart_from place (row ∷ rows) o zero (suc j) a b l e f = subst (λ (r : Row). r.offset + r.length ≤ b.offset) (same_Some row a e) (behind_place (row.offset + row.length) rows (and_parts (leb place row.offset) (in_order (row.offset + row.length) rows) o).1 j b f)
apart_from place (row ∷ rows) o (suc i) zero a b l e f = absurd (omega arith)
apart_from place (row ∷ rows) o (suc i) (suc j) a b l e f = apart_from (row.offset + row.length) rows (and_parts (leb place row.offset) (in_order (row.offset + row.length) rows) o).1 i j a b (omega arith) e f

in_order_from : (place : ℕ) (rows : List Row) → ((i : ℕ) (b : Row) → slice_get rows i ≡ Some b → place ≤ b.offset) → Apart rows → in_order place rows ≡ true
in_order_from place [] first apart = refl
in_order_from place (row ∷ rows) first apart =
    and_from (leb place row.offset) (in_order (row.offset + row.length) rows) (le-leb place row.offset (first 0 row refl))
    (in_order_from (row.offset + row.length) rows (λ i b e. apart 0 (suc i) row b (omega arith) refl e) (λ i j a b l e f. apart (suc i) (suc j) a b (omega arith) e f))

-- Names.

module _ (text : List ℕ) where
  abbrev Once : List Row → Type 0
  Once rows = (i j : ℕ) (a b : Row) → i < j → slice_get rows i ≡ Some a → slice_get rows j ≡ Some b → name_of text a ≡ name_of text b → ⊥

  -- a row with the name
  abbrev Found : List Row → List ℕ → ℕ → Type 0
  Found rows n m = (j : ℕ) × ((row : Row) × ((slice_get rows j ≡ Some row) × (name_of text row ≡ n) × (row.code ≡ m)))

  module _ (row : Row) (rows : List Row) (n : List ℕ) where
    number_first : bytes_eq (name_of text row) n ≡ true → number_at text (row ∷ rows) n ≡ Some row.code
    number_first t = ap (option_map (λ r. r.code)) (cond-true (bytes_eq (name_of text row) n) (Some row) (row_at text rows n) t)

    number_next : bytes_eq (name_of text row) n ≡ false → number_at text (row ∷ rows) n ≡ number_at text rows n
    number_next t = ap (option_map (λ r. r.code)) (cond-false (bytes_eq (name_of text row) n) (Some row) (row_at text rows n) t)

  pub number_row : (rows : List Row) (n : List ℕ) (m : ℕ) → number_at text rows n ≡ Some m → Found rows n m
  number_row [] n m e = absurd (cc)
  number_row (row ∷ rows) n m e = ⊎_elim
      (λ t. let f : Some row.code ≡ Some m = sym (number_first row rows n t) ∙ e in let same : row.code ≡ m = cc in (0, (row, (refl, (bytes_eq-Decides (name_of text row) n).0 t, same))))
      (λ t. let it = number_row rows n m (sym (number_next row rows n t) ∙ e) in (suc it.0, (it.1.0, it.1.1)))
      (cases_Bool (bytes_eq (name_of text row) n))

  named_some : (rows : List Row) (n : List ℕ) (j : ℕ) (b : Row) → slice_get rows j ≡ Some b → name_of text b ≡ n → is_some (number_at text rows n) ≡ true
  named_some [] n j b e same = absurd (cc)
  named_some (row ∷ rows) n zero b e same = ap is_some (number_first row rows n ((bytes_eq-Decides (name_of text row) n).1 (ap (name_of text) (same_Some row b e) ∙ same)))
  named_some (row ∷ rows) n (suc j) b e same = ⊎_elim
      (λ t. ap is_some (number_first row rows n t))
      (λ t. ap is_some (number_next row rows n t) ∙ named_some rows n j b e same)
      (cases_Bool (bytes_eq (name_of text row) n))

  not_named : (rows : List Row) (n : List ℕ) → ((j : ℕ) (b : Row) → slice_get rows j ≡ Some b → name_of text b ≡ n → ⊥) → number_at text rows n ≡ None
  not_named [] n none = refl
  not_named (row ∷ rows) n none = ⊎_elim
      (λ t. absurd (none 0 row refl ((bytes_eq-Decides (name_of text row) n).0 t)))
      (λ t. number_next row rows n t ∙ not_named rows n (λ j b e. none (suc j) b e))
      (cases_Bool (bytes_eq (name_of text row) n))

  once_from : (rows : List Row) → names_twice text rows ≡ false → Once rows
  once_from [] o i j a b l e f same = absurd (cc)
  once_from (row ∷ rows) o zero zero a b l e f same = absurd (omega arith)
  once_from (row ∷ rows) o zero (suc j) a b l e f same =
      let none = (or_parts (is_some (number_at text rows (name_of text row))) (names_twice text rows) o).0 in
      both_ways (is_some (number_at text rows (name_of text row))) none (named_some rows (name_of text row) j b f (sym (ap (name_of text) (same_Some row a e) ∙ same)))
  once_from (row ∷ rows) o (suc i) zero a b l e f same = absurd (omega arith)
  once_from (row ∷ rows) o (suc i) (suc j) a b l e f same = once_from rows (or_parts (is_some (number_at text rows (name_of text row))) (names_twice text rows) o).1 i j a b (omega arith) e f same

  once_later : (row : Row) (rows : List Row) → Once (row ∷ rows) → Once rows
  once_later row rows once i j a b l e f = once (suc i) (suc j) a b (omega arith) e f

  twice_from : (rows : List Row) → Once rows → names_twice text rows ≡ false
  twice_from [] once = refl
  twice_from (row ∷ rows) once =
      or_from (is_some (number_at text rows (name_of text row))) (names_twice text rows)
      (ap is_some (not_named rows (name_of text row) (λ j b e same. once 0 (suc j) row b (omega arith) refl e (sym same))))
      (twice_from rows (once_later row rows once))

  -- where no name stands twice, the row with a name is the one that counts
  number_there : (rows : List Row) → Once rows → (j : ℕ) (own : Row) → slice_get rows j ≡ Some own → number_at text rows (name_of text own) ≡ Some own.code
  number_there [] once j own e = absurd (cc)
  number_there (row ∷ rows) once zero own e =
      let same = same_Some row own e in
      number_first row rows (name_of text own) ((bytes_eq-Decides (name_of text row) (name_of text own)).1 (ap (name_of text) same)) ∙ ap (λ (r : Row). Some r.code) same
  number_there (row ∷ rows) once (suc j) own e = ⊎_elim
      (λ t. absurd (once 0 (suc j) row own (omega arith) refl e ((bytes_eq-Decides (name_of text row) (name_of text own)).0 t)))
      (λ t. number_next row rows (name_of text own) t ∙ number_there rows (once_later row rows once) j own e)
      (cases_Bool (bytes_eq (name_of text row) (name_of text own)))

-- One row.

byte_parts : (b : ℕ) → name_byte b ≡ true → (33 ≤ b) × (b ≤ 126) × (b ≡ 61 → ⊥)
byte_parts b e =
    let range = and_parts (leb 33 b && leb b 126) (not (eqb b 61)) e in
    let ends = and_parts (leb 33 b) (leb b 126) range.0 in
    (leb-true 33 b ends.0, leb-true b 126 ends.1, eqb-false b 61 (not-true (eqb b 61) range.1))

byte_from : (b : ℕ) → (33 ≤ b) × (b ≤ 126) × (b ≡ 61 → ⊥) → name_byte b ≡ true
byte_from b h = and_from (leb 33 b && leb b 126) (not (eqb b 61)) (and_from (leb 33 b) (leb b 126) (le-leb 33 b h.0) (le-leb b 126 h.1)) (not_from_false (eqb b 61) (ne_eqb b 61 h.2))

begins_there : (n : List ℕ) → slice_get n 0 ≡ Some 45 → begins 45 n ≡ true
begins_there [] e = absurd (cc)
begins_there (b ∷ n) e = eq-eqb b 45 (same_Some b 45 e)

there_begins : (n : List ℕ) → begins 45 n ≡ true → slice_get n 0 ≡ Some 45
there_begins [] e = absurd (both_ways false refl e)
there_begins (b ∷ n) e = ap Some (eqb-true b 45 e)

module _ (text : List ℕ) (row : Row) where
  abbrev its_name : List ℕ
  its_name = name_of text row

  name_length : length its_name ≤ row.length
  name_length = let t = length-take row.length (drop row.offset text) in omega arith

  row_parts : good_row text row ≡ true → GoodRow text row
  row_parts e =
      let outer = and_parts (inside text row && good_name its_name) (leb row.code 32) e in
      let inner = and_parts (inside text row) (good_name its_name) outer.0 in
      let name = and_parts (ltb 0 (length its_name) && not (begins 45 its_name)) (list_all name_byte its_name) inner.1 in
      let front = and_parts (ltb 0 (length its_name)) (not (begins 45 its_name)) name.0 in
      let some : 0 < length its_name = ltb-true 0 (length its_name) front.0 in
      record {
        inside = leb-true (row.offset + row.length) (length text) inner.0;
        a_byte = omega (arith, name_length);
        bytes = λ k b f. byte_parts b (every_there name_byte its_name name.1 k b f);
        no_dash = λ f. both_ways (begins 45 its_name) (not-true (begins 45 its_name) front.1) (begins_there its_name f);
        a_code = leb-true row.code 32 outer.1;
      }

  row_from : GoodRow text row → good_row text row ≡ true
  row_from g =
      let t = length-take row.length (drop row.offset text) in
      let d = length-drop row.offset text in
      let i : row.offset + row.length ≤ length text = g.inside in
      let a : 0 < row.length = g.a_byte in
      let some : 0 < length its_name = omega arith in
      let no_dash : begins 45 its_name ≡ false = ⊎_elim (λ b. absurd (g.no_dash (there_begins its_name b))) (λ b. b) (cases_Bool (begins 45 its_name)) in
      and_from (inside text row && good_name its_name) (leb row.code 32)
      (and_from (inside text row) (good_name its_name) (le-leb (row.offset + row.length) (length text) i)
      (and_from (ltb 0 (length its_name) && not (begins 45 its_name)) (list_all name_byte its_name)
      (and_from (ltb 0 (length its_name)) (not (begins 45 its_name)) (lt-ltb 0 (length its_name) some) (not_from_false (begins 45 its_name) no_dash))
      (every_from name_byte its_name (λ k b e. byte_from b (g.bytes k b e)))))
      (le-leb row.code 32 g.a_code)

-- Homes.

is_number_true : (o : Option ℕ) (n : ℕ) → is_number o n ≡ true → o ≡ Some n
is_number_true None n e = absurd (both_ways false refl e)
is_number_true (Some m) n e = ap Some (eqb-true m n e)

module _ (text : List ℕ) (rows : List Row) where
  abbrev at_home_by : Option Code → Bool
  at_home_by o = elim o [ Some c ↦ has_home text rows (about c).makes | None ↦ false ]

  row_home_by : (row : Row) (c : Code) → code_of row.code ≡ Some c → row_home text rows row ≡ has_home text rows (about c).makes
  row_home_by row c e = ap at_home_by e

  own_home : (kind : Kind) → has_home text rows kind ≡ true → OwnHome text rows kind
  own_home kind e =
      let it = number_row text rows (home_name kind) (about (Of kind)).number (is_number_true (number_at text rows (home_name kind)) (about (Of kind)).number e) in
      record { place = it.0; row = it.1.0; there = it.1.1.0; name = it.1.1.1; code = it.1.1.2 }

  pub home_number : Good text rows → (kind : Kind) → OwnHome text rows kind → number_at text rows (home_name kind) ≡ Some (about (Of kind)).number
  home_number g kind h = ap (number_at text rows) (sym h.name) ∙ number_there text rows g.once h.place h.row h.there ∙ ap Some h.code

  has_own_home : Good text rows → (kind : Kind) → OwnHome text rows kind → has_home text rows kind ≡ true
  has_own_home g kind h = ap (λ o. is_number o (about (Of kind)).number) (home_number g kind h) ∙ eq-eqb (about (Of kind)).number (about (Of kind)).number refl

  coded_home : Good text rows → (i : ℕ) (row : Row) → slice_get rows i ≡ Some row → (o : Option Code) → code_of row.code ≡ o → row_home text rows row ≡ true
  coded_home g i row e None f = absurd (both_ways _ (ap is_some f) (is_code row.code ∙ le-leb row.code 32 (g.each i row e).a_code))
  coded_home g i row e (Some c) f = row_home_by row c f ∙ has_own_home g (about c).makes (g.homed i row c e f)

-- What the check found.

abbrev told : Bool → Bool → Bool → Result (Unit {0}) Refusal
told placed twice homed = cond (not placed) (Err BadRow) (cond twice (Err NameTwice) (cond (not homed) (Err HomeMissing) (Ok tt)))

told_parts : (p t h : Bool) → is_ok (told p t h) ≡ true → (p ≡ true) × (t ≡ false) × (h ≡ true)
told_parts true true h e = absurd (both_ways false refl e)
told_parts true false true e = (refl, refl, refl)
told_parts true false false e = absurd (both_ways false refl e)
told_parts false t h e = absurd (both_ways false refl e)

told_from : (p t h : Bool) → p ≡ true → t ≡ false → h ≡ true → is_ok (told p t h) ≡ true
told_from p t h a b c = rw (a, b, c)

module _ (text : List ℕ) (rows : List Row) where
  good_from : is_ok (verdict text rows) ≡ true → Good text rows
  good_from e =
      let found = told_parts (well_placed text rows) (names_twice text rows) (homes text rows) e in
      let placed = and_parts (leb (length rows) 256 && in_order 0 rows) (list_all (good_row text) rows) found.0 in
      let front = and_parts (leb (length rows) 256) (in_order 0 rows) placed.0 in
      record {
        few = leb-true (length rows) 256 front.0;
        each = λ i row f. row_parts text row (every_there (good_row text) rows placed.1 i row f);
        apart = apart_from 0 rows front.1;
        once = once_from text rows found.1;
        homed = λ i row c f k. own_home text rows (about c).makes (sym (row_home_by text rows row c k) ∙ every_there (row_home text rows) rows found.2 i row f);
      }

  from_good : Good text rows → is_ok (verdict text rows) ≡ true
  from_good g =
      told_from (well_placed text rows) (names_twice text rows) (homes text rows)
      (and_from (leb (length rows) 256 && in_order 0 rows) (list_all (good_row text) rows)
      (and_from (leb (length rows) 256) (in_order 0 rows) (le-leb (length rows) 256 g.few) (in_order_from 0 rows (λ i b e. omega arith) g.apart))
      (every_from (good_row text) rows (λ i row e. row_from text row (g.each i row e))))
      (twice_from text rows g.once)
      (every_from (row_home text rows) rows (λ i row e. coded_home text rows g i row e _ refl))

  pub tells_good : TellsGood (is_ok (verdict text rows)) text rows
  tells_good = record { good = good_from; told = from_good }

  pub tells_verdict : (r : Result (Unit {0}) Refusal) → r ≡ verdict text rows → TellsGood (is_ok r) text rows
  tells_verdict r e = subst (λ v. TellsGood (is_ok v) text rows) (sym e) tells_good
