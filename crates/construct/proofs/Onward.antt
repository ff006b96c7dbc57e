-- All that an option makes is the first flag and what is made of the rest. Assumes nothing.
use Rattle.std.proofs.Common.{◌≡◌, ℕ, Bool, true, false, cond, List, [], ◌∷◌, map, length, drop, Some, None, Option, sym, refl, ap, ◌∙◌, le_refl}
use Rattle.std.specs.Option.{option_map, option_to_list}
use Rattle.std.proofs.lemmas.List.{drop_all}
use Rattle.words.specs.Lists.{Reads, known, first_known, from_first}
use Rattle.words.specs.Reading.{read}
use Rattle.words.specs.Spellings as word
use Rattle.words.proofs.Parted.{known_onward}
use Rattle.flags.specs.Codes.{about}
use Rattle.flags.specs.Meaning.{Bytes, Meaning, crate_type, emit}
use Rattle.flags.specs.declared.kinds.Code.{Code}
use Rattle.flags.specs.declared.kinds.Takes.{Takes}
use Rattle.flags.specs.declared.kinds.Takes.TheVariants.{Nothing, List as list, One}
use Rattle.opt.specs.Opt.{onward, emit_of, emits_of, crate_type_of, crate_types_of}
use Rattle.construct.specs.Made.{single, used_up, first_made, all_made}
use Rattle.construct.proofs.Listed.{is_emit, first_listed, all_listed, first_by_takes, all_by_takes}

-- what is made of the rest of an argument; nothing, where no rest is left
abbrev pub tail_made : Code → Bytes → List Meaning
tail_made c [] = []
tail_made c (b ∷ bs) = all_made c (b ∷ bs)

abbrev by_first : Code → Bytes → Option (Meaning × ℕ) → List Meaning
by_first c a f = elim f [ None ↦ [] | Some p ↦ p.0 ∷ tail_made c (drop p.1 a) ]

whole_onward : (c : Code) (a : Bytes) (o : Option Meaning) → option_to_list o ≡ by_first c a (used_up a o)
whole_onward c a None = refl
whole_onward c a (Some m) = ap (λ rest. m ∷ tail_made c rest) (sym (drop_all (length a) a (le_refl _)))

-- of a list of words
module _ {W : Type 0} (reads : Reads W) (nothing : reads [] ≡ None) (flag : W → Meaning) where
  words_by : (a : Bytes) (f : Option (W × ℕ)) → map flag (from_first reads a f) ≡ onward (λ l. map flag (known reads l)) a (option_map (λ p. (flag p.0, p.1)) f)
  words_by a None = refl
  words_by a (Some p) = refl

  words_onward : (a : Bytes) → map flag (known reads a) ≡ onward (λ l. map flag (known reads l)) a (option_map (λ p. (flag p.0, p.1)) (first_known reads a))
  words_onward a = ap (map flag) (known_onward reads nothing a) ∙ words_by a (first_known reads a)

listed_onward : (c : Code) (a : Bytes) → all_listed c a ≡ onward (all_listed c) a (first_listed c a)
listed_onward c a = by (is_emit c)
  where
    by : (t : Bool) → cond t emits_of crate_types_of a ≡ onward (cond t emits_of crate_types_of) a (cond t emit_of crate_type_of a)
    by true = words_onward (read word.emits word.emit) refl emit a
    by false = words_onward (read word.crate_types word.crate_type) refl crate_type a

no_words : (c : Code) → all_listed c [] ≡ []
no_words c = by (is_emit c)
  where
    by : (t : Bool) → cond t emits_of crate_types_of [] ≡ []
    by true = refl
    by false = refl

module _ (c : Code) (takes_list : (about c).takes ≡ list) where
  listed : (a : Bytes) → all_made c a ≡ all_listed c a
  listed a = all_by_takes c a ∙ ap (λ t. elim t [ Nothing ↦ option_to_list (single c a) | list ↦ all_listed c a | One ↦ option_to_list (single c a) ]) takes_list

  tail_listed : (rest : Bytes) → all_listed c rest ≡ tail_made c rest
  tail_listed [] = no_words c
  tail_listed (b ∷ bs) = sym (listed (b ∷ bs))

  list_by : (a : Bytes) (f : Option (Meaning × ℕ)) → onward (all_listed c) a f ≡ by_first c a f
  list_by a None = refl
  list_by a (Some p) = ap (λ l. p.0 ∷ l) (tail_listed (drop p.1 a))

pub all_onward : (c : Code) (a : Bytes) → all_made c a ≡ by_first c a (first_made c a)
all_onward c a = all_by_takes c a ∙ by (about c).takes refl ∙ sym (ap (by_first c a) (first_by_takes c a))
  where
    by : (t : Takes) → (about c).takes ≡ t → elim t [ Nothing ↦ option_to_list (single c a) | list ↦ all_listed c a | One ↦ option_to_list (single c a) ] ≡ by_first c a (elim t [ Nothing ↦ used_up a (single c a) | list ↦ first_listed c a | One ↦ used_up a (single c a) ])
    by Nothing e = whole_onward c a (single c a)
    by list e = listed_onward c a ∙ list_by c e a (first_listed c a)
    by One e = whole_onward c a (single c a)
