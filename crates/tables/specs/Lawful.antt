-- The laws of a table, of rustc's. Assumes nothing.
use Rattle.std.specs.Prelude.{◌≡◌, ℕ, ◌≤◌, true, List, [], ◌∷◌, Some, None, Option, slice_index, slice_index_or, refl}
use Rattle.std.proofs.Common.{sym, ap, subst, ◌∙◌, ⊎_elim, arith, rules}
use Rattle.std.specs.List.{AllByRecursion, find}
use Rattle.std.specs.Option.{option_map}
use Rattle.std.specs.Str.{bytes_eq}
use Rattle.std.proofs.lemmas.Slice.Eq.{bytes_eq-Decides}
use Rattle.std.proofs.lemmas.Bool.{cases_Bool, cond-true, cond-false, both_ways}
use Rattle.flags.specs.Codes.{about}
use Rattle.flags.specs.declared.kinds.Code.{Code}
use Rattle.flags.specs.declared.kinds.Kind.{Kind}
use Rattle.utf8.specs.Utf8 as text
use Rattle.tables.specs.Rustc.{Spelling, letters, long_options, code_in, rustc}
use Rattle.tables.specs.Tables.{is_name, AtHome, Given, Lawful, by_letter, by_name}

-- the code that is found is that of a row with the name
record Found (P : Spelling → Type 0) (n : List ℕ) (c : Code) : Type 0 where
  row : Spelling
  holds : P row
  name : n ≡ row.name
  code : row.code ≡ c

module _ (P : Spelling → Type 0) (n : List ℕ) (c : Code) where
  found : (rows : List Spelling) → AllByRecursion P rows → code_in rows n ≡ Some c → Found P n c
  found [] ps e = absurd (cc)
  found (r ∷ rows) ps e = ⊎_elim
      (λ t. let first : Some r.code ≡ Some c = ap (option_map (λ s. s.code)) (sym (cond-true _ (Some r) (find (λ s. bytes_eq s.name n) rows) t)) ∙ e in record { row = r; holds = ps.0; name = sym ((bytes_eq-Decides r.name n).0 t); code = cc })
      (λ t. found rows ps.1 (ap (option_map (λ s. s.code)) (sym (cond-false _ (Some r) (find (λ s. bytes_eq s.name n) rows) t)) ∙ e))
      (cases_Bool (bytes_eq r.name n))

none_unless : (o : Option Code) → ((c : Code) → o ≡ Some c → ⊥) → o ≡ None
none_unless None never = refl
none_unless (Some c) never = absurd (never c refl)

-- a row's letter is ASCII, and its kind is at home
abbrev Letter : Spelling → Type 0
Letter r = (slice_index r.name 0 ≤ 127) × AtHome rustc (about r.code).makes

each_letter : AllByRecursion Letter letters
each_letter = search rules

-- a row's name is a name, and its kind is at home
abbrev Name : Spelling → Type 0
Name r = (is_name r.name ≡ true) × AtHome rustc (about r.code).makes

each_name : AllByRecursion Name long_options
unfolding text.utf8
each_name = search rules

at_home : (k : Kind) → Given rustc k → AtHome rustc k
at_home k (by_letter b c e m) = let it = found Letter (b ∷ []) c letters each_letter e in subst (AtHome rustc) (ap (λ x. (about x).makes) it.code ∙ m) it.holds.1
at_home k (by_name n c e m) = let it = found Name n c long_options each_name e in subst (AtHome rustc) (ap (λ x. (about x).makes) it.code ∙ m) it.holds.1

pub rustc_lawful : Lawful rustc
rustc_lawful = record {
  letters = λ b high. none_unless _ (λ c e. let it = found Letter (b ∷ []) c letters each_letter e in let first : b ≡ slice_index_or it.row.name 0 0 = ap (λ l. slice_index l 0) it.name in omega (arith, it.holds.0));
  names = λ n not'. none_unless _ (λ c e. let it = found Name n c long_options each_name e in both_ways _ not' (ap is_name it.name ∙ it.holds.0));
  homes = at_home;
}
