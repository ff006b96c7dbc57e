-- A house table is lawful, since its rows are good. Assumes nothing.
use Rattle.std.proofs.Common.{◌≡◌, ℕ, suc, ◌<◌, ◌≤◌, true, false, not, eqb, leb, List, [], ◌∷◌, length, Some, None, Option, sym, refl, ap, ◌∙◌, subst, ⊎_elim, arith}
use Rattle.std.specs.List.{slice_get, AllByRecursion}
use Rattle.std.proofs.lemmas.Bool.{and_from, both_ways, cases_Bool, cond-true, cond-false, ne_eqb, not_from_false, or_from}
use Rattle.utf8.specs.Utf8.{utf8}
use Rattle.utf8.proofs.Laws.{utf8_ascii}
use Rattle.text.specs.Cuts.{holds}
use Rattle.flags.specs.Codes.{about, code_of}
use Rattle.flags.specs.declared.kinds.Code.{Code}
use Rattle.flags.specs.declared.kinds.Code.TheVariants.{Of}
use Rattle.flags.specs.declared.kinds.Kind.{Kind}
use Rattle.flags.specs.declared.kinds.Kind.TheVariants as kind
use Rattle.flags.proofs.Numbered.{tells_code}
use Rattle.tables.specs.Tables.{is_name, at_home, AtHome, Given, Lawful, by_letter, by_name}
use Rattle.rows.specs.Good.{Good}
use Rattle.rows.specs.Rows.{number_at, code_at, home_name}
use Rattle.rows.specs.declared.rows.Row.{Row}
use Rattle.rows.proofs.Judged.{number_row, home_number, tells_good}
use Rattle.house.specs.House.{said, accepted}

-- the bytes of a name in good rows
abbrev NameBytes : List ℕ → Type 0
NameBytes n = (k b : ℕ) → slice_get n k ≡ Some b → (33 ≤ b) × (b ≤ 126) × (b ≡ 61 → ⊥)

all_ascii : (n : List ℕ) → NameBytes n → AllByRecursion (λ b. b < 128) n
all_ascii [] bytes = tt
all_ascii (b ∷ n) bytes = let low : b ≤ 126 = (bytes 0 b refl).1 in (omega arith, all_ascii n (λ k c e. bytes (suc k) c e))

no_equals : (n : List ℕ) → NameBytes n → holds 61 n ≡ false
no_equals [] bytes = refl
no_equals (b ∷ n) bytes = or_from (eqb b 61) (holds 61 n) (ne_eqb b 61 (bytes 0 b refl).2) (no_equals n (λ k c e. bytes (suc k) c e))

named : (b : ℕ) (n : List ℕ) → NameBytes (b ∷ n) → is_name (b ∷ n) ≡ true
named b n bytes = and_from (utf8 (b ∷ n)) (not (holds 61 (b ∷ n))) (utf8_ascii (b ∷ n) (all_ascii (b ∷ n) bytes)) (not_from_false (holds 61 (b ∷ n)) (no_equals (b ∷ n) bytes))

-- the code with a number
abbrev coded : Option ℕ → Option Code
coded o = elim o [ Some m ↦ code_of m | None ↦ None ]

module _ (text : List ℕ) (rows : List Row) where
  -- the name in a home spelling has the code of the spelling
  home_spelled : (k : Kind) → at_home (said text rows) k ≡ code_at text rows (home_name k)
  home_spelled kind.Help = refl
  home_spelled kind.Cfg = refl
  home_spelled kind.LibrarySearchPath = refl
  home_spelled kind.Link = refl
  home_spelled kind.CrateType = refl
  home_spelled kind.CrateName = refl
  home_spelled kind.Edition = refl
  home_spelled kind.Emit = refl
  home_spelled kind.Print = refl
  home_spelled kind.Out = refl
  home_spelled kind.OutDir = refl
  home_spelled kind.Explain = refl
  home_spelled kind.Test = refl
  home_spelled kind.Target = refl
  home_spelled kind.Allow = refl
  home_spelled kind.Warn = refl
  home_spelled kind.ForceWarn = refl
  home_spelled kind.Deny = refl
  home_spelled kind.Forbid = refl
  home_spelled kind.CapLints = refl
  home_spelled kind.Codegen = refl
  home_spelled kind.Version = refl
  home_spelled kind.Verbose = refl
  home_spelled kind.Extern = refl
  home_spelled kind.ExternLocation = refl
  home_spelled kind.Sysroot = refl
  home_spelled kind.Z = refl
  home_spelled kind.ErrorFormat = refl
  home_spelled kind.Json = refl
  home_spelled kind.Color = refl
  home_spelled kind.RemapPathPrefix = refl

  long_code : (n : List ℕ) (c : Code) → (said text rows).long n ≡ Some c → code_at text rows n ≡ Some c
  long_code n c e = ⊎_elim
      (λ t. sym (cond-true _ _ _ t) ∙ e)
      (λ t. let f : None ≡ Some c = sym (cond-false _ _ _ t) ∙ e in absurd (cc))
      (cases_Bool (leb 2 (length n)))

  module _ (g : Good text rows) where
    name_bytes : (n : List ℕ) (m : ℕ) → number_at text rows n ≡ Some m → NameBytes n
    name_bytes n m e = let it = number_row text rows n m e in subst NameBytes it.1.1.1 (g.each it.0 it.1.0 it.1.1.0).bytes

    no_letter : (b : ℕ) → 128 ≤ b → (o : Option ℕ) → number_at text rows (b ∷ []) ≡ o → coded o ≡ None
    no_letter b high None e = refl
    no_letter b high (Some m) e = absurd (let low : b ≤ 126 = (name_bytes (b ∷ []) m e 0 b refl).1 in omega arith)

    no_name : (b : ℕ) (n : List ℕ) → is_name (b ∷ n) ≡ false → (o : Option ℕ) → number_at text rows (b ∷ n) ≡ o → coded o ≡ None
    no_name b n not' None e = refl
    no_name b n not' (Some m) e = absurd (both_ways (is_name (b ∷ n)) not' (named b n (name_bytes (b ∷ n) m e)))

    only_names : (n : List ℕ) → is_name n ≡ false → (said text rows).long n ≡ None
    only_names [] not' = refl
    only_names (b ∷ n) not' = ⊎_elim
        (λ t. cond-true _ _ _ t ∙ no_name b n not' _ refl)
        (λ t. cond-false _ _ _ t)
        (cases_Bool (leb 2 (length (b ∷ n))))

    -- the kind that a known name's code makes is at home
    kind_home : (n : List ℕ) (c : Code) (o : Option ℕ) → number_at text rows n ≡ o → coded o ≡ Some c → AtHome (said text rows) (about c).makes
    kind_home n c None e f = absurd (cc)
    kind_home n c (Some m) e f =
        let k = (about c).makes in
        let it = number_row text rows n m e in
        let own = g.homed it.0 it.1.0 c it.1.1.0 (ap code_of it.1.1.2 ∙ f) in
        home_spelled k ∙ ap coded (home_number text rows g k own) ∙ (tells_code (about (Of k)).number).there (Of k) refl

    all_home : (k : Kind) → Given (said text rows) k → AtHome (said text rows) k
    all_home k (by_letter b c e m) = subst (AtHome (said text rows)) m (kind_home (b ∷ []) c _ refl e)
    all_home k (by_name n c e m) = subst (AtHome (said text rows)) m (kind_home n c _ refl (long_code n c e))

  pub said_lawful : accepted text rows ≡ true → Lawful (said text rows)
  said_lawful checked =
      let g = (tells_good text rows).good checked in
      record { letters = λ b high. no_letter g b high _ refl; names = only_names g; homes = all_home g }
