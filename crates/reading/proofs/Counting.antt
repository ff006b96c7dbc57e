-- A text gives no more flags than it has bytes. Assumes nothing.
use Rattle.std.proofs.Common.{◌≡◌, ℕ, ◌+◌, ◌<◌, ◌≤◌, Bool, true, false, cond, eqb, List, [], ◌∷◌, map, length, Some, None, Option, sym, refl, subst, arith, length-append}
use Rattle.std.specs.Option.{option_to_list}
use Rattle.std.proofs.lemmas.List.{length-map}
use Rattle.construct.specs.Made.{single as one-flag, all_made}
use Rattle.construct.proofs.Listed.{is_emit, all_listed, all_by_takes}
use Rattle.flags.specs.Codes.{about}
use Rattle.flags.specs.Meaning.{Bytes, Meaning, crate_type, emit}
use Rattle.flags.specs.declared.kinds.Code.{Code}
use Rattle.flags.specs.declared.kinds.Takes.{Takes}
use Rattle.flags.specs.declared.kinds.Takes.TheVariants.{Nothing, List as list, One}
use Rattle.tables.specs.Tables.{Options}
use Rattle.text.specs.Arguments.{separator, onto_first, pieces, arguments}
use Rattle.text.specs.Cuts.{Halves, cut_first}
use Rattle.text.specs.Shapes.{Form, dash, behind_one, behind_two, form_of, empty, single, double, long, short, plain}
use Rattle.text.proofs.Cutting.{cut_first_shorter}
use Rattle.opt.specs.Opt.{emits_of, crate_types_of}
use Rattle.words.specs.Lists.{comma, Reads, known_in, known}
use Rattle.words.specs.Reading.{read}
use Rattle.words.specs.Spellings as word
use Rattle.reading.specs.Counts.{AtMost}
use Rattle.reading.specs.Reading.{State, free, long_owed, short_owed, ended, Step, equipped, alone, taking_rest, before, cluster_step, long_step, free_step, step, reading_from}

abbrev bytes_in : List Bytes → ℕ
bytes_in [] = 0
bytes_in (p ∷ ps) = length p + bytes_in ps

-- the pieces have no bytes but the list's
bytes_onto : (x : ℕ) (ps : List Bytes) → bytes_in (onto_first x ps) ≤ 1 + bytes_in ps
bytes_onto x [] = omega arith
bytes_onto x (p ∷ ps) = omega arith

bytes_at : (t : Bool) (x : ℕ) (ps : List Bytes) → bytes_in (cond t ([] ∷ ps) (onto_first x ps)) ≤ 1 + bytes_in ps
bytes_at true x ps = omega arith
bytes_at false x ps = bytes_onto x ps

bytes_pieces : (b : ℕ) (bs : Bytes) → bytes_in (pieces b bs) ≤ length bs
bytes_pieces b [] = omega arith
bytes_pieces b (x ∷ xs) = omega (arith, bytes_at (eqb x b) x (pieces b xs), bytes_pieces b xs)

bytes_arguments : (text : Bytes) → bytes_in (arguments text) ≤ length text
bytes_arguments [] = omega arith
bytes_arguments (x ∷ xs) = bytes_pieces separator (x ∷ xs)

-- no word is empty, so a list has no more words than bytes
module _ {W : Type 0} (reads : Reads W) (nothing : reads [] ≡ None) where
  some_byte : (p : Bytes) (w : W) → reads p ≡ Some w → 0 < length p
  some_byte [] w e = cc
  some_byte (b ∷ bs) w e = omega arith

  word_by : (p : Bytes) (ps : List Bytes) → length (known_in reads ps) ≤ bytes_in ps → (o : Option W) → reads p ≡ o → length {A = W} (elim o [ Some w ↦ w ∷ known_in reads ps | None ↦ known_in reads ps ]) ≤ length p + bytes_in ps
  word_by p ps h None e = omega arith
  word_by p ps h (Some w) e = omega (arith, some_byte p w e)

  words_in : (ps : List Bytes) → length (known_in reads ps) ≤ bytes_in ps
  words_in [] = omega arith
  words_in (p ∷ ps) = word_by p ps (words_in ps) (reads p) refl

  words : (flag : W → Meaning) (a : Bytes) → length (map flag (known reads a)) ≤ length a
  words flag a = omega (arith, length-map (known reads a) flag, words_in (pieces comma a), bytes_pieces comma a)

listed : (t : Bool) (a : Bytes) → length (cond t emits_of crate_types_of a) ≤ length a
listed true a = words (read word.emits word.emit) refl emit a
listed false a = words (read word.crate_types word.crate_type) refl crate_type a

at_most_one : (o : Option Meaning) → length (option_to_list o) ≤ 1
at_most_one None = omega arith
at_most_one (Some m) = omega arith

-- an option gives at most one flag more than its argument has bytes
made : (c : Code) (a : Bytes) → length (all_made c a) ≤ 1 + length a
made c a = subst (λ l. length l ≤ 1 + length a) (sym (all_by_takes c a)) (by (about c).takes)
  where
    by : (t : Takes) → length {A = Meaning} (elim t [ Nothing ↦ option_to_list (one-flag c a) | list ↦ all_listed c a | One ↦ option_to_list (one-flag c a) ]) ≤ 1 + length a
    by Nothing = omega (arith, at_most_one (one-flag c a))
    by list = omega (arith, listed (is_emit c) a)
    by One = omega (arith, at_most_one (one-flag c a))

-- an option that lacks its argument has paid for that one flag
abbrev credit : State → ℕ
credit free = 0
credit (long_owed c) = 1
credit (short_owed c) = 1
credit ended = 0

abbrev worth : Step → ℕ
worth s = length s.0 + credit s.1

-- the least bytes of an argument of a form
abbrev size : Form → ℕ
size empty = 0
size single = 0
size double = 0
size (long body) = 2 + length body
size (short letters) = 1 + length letters
size plain = 0

size_two : (xs : Bytes) → size (behind_two xs) ≤ 2 + length xs
size_two [] = omega arith
size_two (x ∷ xs) = omega arith

size_one : (xs : Bytes) → size (behind_one xs) ≤ 1 + length xs
size_one [] = omega arith
size_one (x ∷ xs) = by (eqb x dash)
  where
    by : (t : Bool) → size (cond t (behind_two xs) (short (x ∷ xs))) ≤ 1 + length (x ∷ xs)
    by true = omega (arith, size_two xs)
    by false = omega arith

size_form : (a : Bytes) → size (form_of a) ≤ length a
size_form [] = omega arith
size_form (x ∷ xs) = by (eqb x dash)
  where
    by : (t : Bool) → size (cond t (behind_one xs) plain) ≤ length (x ∷ xs)
    by true = omega (arith, size_one xs)
    by false = omega arith

worth_rest : (c : Code) (bs : Bytes) → worth (taking_rest c bs) ≤ 1 + length bs
worth_rest c [] = omega arith
worth_rest c (b ∷ bs) = omega (arith, made c (b ∷ bs))

worth_equipped : (k : Option Code) (a : Bytes) → worth (equipped k a) ≤ 1 + length a
worth_equipped None a = omega arith
worth_equipped (Some c) a = by (about c).flag
  where
    by : (f : Option Meaning) → worth (elim f [ Some flag ↦ ([], free) | None ↦ (all_made c a, free) ]) ≤ 1 + length a
    by None = omega (arith, made c a)
    by (Some flag) = omega arith

worth_alone : (k : Option Code) → worth (alone k) ≤ 1
worth_alone None = omega arith
worth_alone (Some c) = by (about c).flag
  where
    by : (f : Option Meaning) → worth (elim f [ Some flag ↦ (flag ∷ [], free) | None ↦ ([], long_owed c) ]) ≤ 1
    by None = omega arith
    by (Some flag) = omega arith

module _ (o : Options) where
  worth_letter : (bs : Bytes) → worth (cluster_step o bs) ≤ length bs → (k : Option Code) → worth (elim k [ None ↦ ([], free) | Some c ↦ elim (about c).flag [ Some flag ↦ before flag (cluster_step o bs) | None ↦ taking_rest c bs ] ]) ≤ 1 + length bs
  worth_letter bs h None = omega arith
  worth_letter bs h (Some c) = by (about c).flag
    where
      by : (f : Option Meaning) → worth (elim f [ Some flag ↦ before flag (cluster_step o bs) | None ↦ taking_rest c bs ]) ≤ 1 + length bs
      by None = worth_rest c bs
      by (Some flag) = omega arith

  worth_cluster : (letters : Bytes) → worth (cluster_step o letters) ≤ length letters
  worth_cluster [] = omega arith
  worth_cluster (b ∷ bs) = omega (arith, worth_letter bs (worth_cluster bs) (o.short b))

  worth_long : (body : Bytes) → worth (long_step o body) ≤ 1 + length body
  worth_long body = by (cut_first 61 body) refl
    where
      by : (cut : Option Halves) → cut_first 61 body ≡ cut → worth (elim cut [ Some halves ↦ equipped (o.long halves.0) halves.1 | None ↦ alone (o.long body) ]) ≤ 1 + length body
      by None e = omega (arith, worth_alone (o.long body))
      by (Some h) e = omega (arith, worth_equipped (o.long h.0) h.1, cut_first_shorter 61 body h e)

  worth_form : (f : Form) → worth (free_step o f) ≤ size f
  worth_form empty = omega arith
  worth_form single = omega arith
  worth_form double = omega arith
  worth_form (long body) = omega (arith, worth_long body)
  worth_form (short letters) = omega (arith, worth_cluster letters)
  worth_form plain = omega arith

  worth_step : (s : State) (a : Bytes) → worth (step o s a) ≤ credit s + length a
  worth_step free a = omega (arith, worth_form (form_of a), size_form a)
  worth_step (long_owed c) a = omega (arith, made c a)
  worth_step (short_owed c) a = omega (arith, made c a)
  worth_step ended a = omega arith

  paid : (s : State) (args : List Bytes) → length (reading_from o s args) ≤ credit s + bytes_in args
  paid free [] = omega arith
  paid (long_owed c) [] = omega (arith, made c [])
  paid (short_owed c) [] = omega arith
  paid ended [] = omega arith
  paid s (a ∷ args) = omega (arith, length-append (step o s a).0 (reading_from o (step o s a).1 args), worth_step s a, paid (step o s a).1 args)

pub at_most : (text : Bytes) → AtMost (length text) text
at_most text = record { flags = λ o. omega (arith, paid o free (arguments text), bytes_arguments text) }
