-- The ways to tell whether a kind is in a table. Assumes nothing.
use Rattle.std.proofs.Common.{◌≡◌, Bool, true, false, eqb, [], ◌∷◌, Some, None, Option, sym, refl, ap, ◌∙◌}
use Rattle.std.proofs.lemmas.Bool.{eqb-true, eq-eqb, both_ways}
use Rattle.text.specs.Shapes.{Form, form_of, empty, single, double, long, short, plain}
use Rattle.flags.specs.Codes.{about, home}
use Rattle.flags.specs.declared.kinds.Code.{Code}
use Rattle.flags.specs.declared.kinds.Code.TheVariants.{Of}
use Rattle.flags.specs.declared.kinds.Kind.{Kind}
use Rattle.flags.specs.declared.kinds.Kind.TheVariants as kind
use Rattle.flags.proofs.Numbered.{tells_code}
use Rattle.tables.specs.Tables.{Options, at_letter, at_home, Given, Lawful, WaysAgree, by_letter, by_name}

abbrev tested : Kind → Option Code → Bool
tested k o = elim o [ None ↦ false | Some c ↦ eqb (about c).number (about (Of k)).number ]

abbrev in_form : Options → Form → Option Code
in_form o f = elim f [ empty ↦ None | single ↦ None | double ↦ None | long name ↦ o.long name | short letters ↦ at_letter o letters | plain ↦ None ]

same_code : (k : Kind) (c : Code) → (about c).number ≡ (about (Of k)).number → c ≡ Of k
same_code k c e =
    let f : Some c ≡ Some (Of k) = sym ((tells_code (about c).number).there c refl) ∙ (tells_code (about c).number).there (Of k) (sym e) in
    cc

own : (k : Kind) → (about (Of k)).makes ≡ k
own kind.Help = refl
own kind.Cfg = refl
own kind.LibrarySearchPath = refl
own kind.Link = refl
own kind.CrateType = refl
own kind.CrateName = refl
own kind.Edition = refl
own kind.Emit = refl
own kind.Print = refl
own kind.Out = refl
own kind.OutDir = refl
own kind.Explain = refl
own kind.Test = refl
own kind.Target = refl
own kind.Allow = refl
own kind.Warn = refl
own kind.ForceWarn = refl
own kind.Deny = refl
own kind.Forbid = refl
own kind.CapLints = refl
own kind.Codegen = refl
own kind.Version = refl
own kind.Verbose = refl
own kind.Extern = refl
own kind.ExternLocation = refl
own kind.Sysroot = refl
own kind.Z = refl
own kind.ErrorFormat = refl
own kind.Json = refl
own kind.Color = refl
own kind.RemapPathPrefix = refl

module _ (o : Options) (k : Kind) where
  told : (a : Option Code) → a ≡ Some (Of k) → tested k a ≡ true
  told a e = ap (tested k) e ∙ eq-eqb _ _ refl

  only_own : (a : Option Code) → tested k a ≡ true → a ≡ Some (Of k)
  only_own None e = absurd (both_ways _ refl e)
  only_own (Some c) e = ap Some (same_code k c (eqb-true _ _ e))

  given_in : (f : Form) → in_form o f ≡ Some (Of k) → Given o k
  given_in empty e = absurd (cc)
  given_in single e = absurd (cc)
  given_in double e = absurd (cc)
  given_in (long name) e = by_name name (Of k) e (own k)
  given_in (short []) e = absurd (cc)
  given_in (short (b ∷ [])) e = by_letter b (Of k) e (own k)
  given_in (short (b ∷ c ∷ bs)) e = absurd (cc)
  given_in plain e = absurd (cc)

  pub ways_agree : Lawful o → WaysAgree o k
  ways_agree laws = record {
    home_known = told (at_home o k);
    known_home = only_own (at_home o k);
    given_known = λ given. told (at_home o k) (laws.homes k given);
    known_given = λ e. given_in (form_of (home k)) (only_own (at_home o k) e);
  }
