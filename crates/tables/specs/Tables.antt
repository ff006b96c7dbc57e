-- What a table of options means, and what each table owes. Assumes nothing.
use Rattle.std.specs.Prelude.{◌≡◌, ℕ, ◌≤◌, Bool, true, false, not, ◌&&◌, List, [], ◌∷◌, Some, None, Option, nat_eq}
use Rattle.flags.specs.Codes.{about, home}
use Rattle.flags.specs.declared.kinds.Code.{Code}
use Rattle.flags.specs.declared.kinds.Code.TheVariants.{Of}
use Rattle.flags.specs.declared.kinds.Kind.{Kind}
use Rattle.text.specs.Cuts.{holds}
use Rattle.text.specs.Shapes.{form_of, empty, single, double, long as double_dashed, short as dashed, plain}
use Rattle.utf8.specs.Utf8.{utf8}

-- the code of the short option with a byte, and of the long option with a name
pub record Options : Type 0 where
  pub short : ℕ → Option Code
  pub long : List ℕ → Option Code

abbrev pub nothing : Options
nothing = record { short = λ b. None; long = λ n. None }

-- a name that a long option can have: some bytes, all UTF-8, no `=`
abbrev pub is_name : List ℕ → Bool
is_name [] = false
is_name (x ∷ xs) = utf8 (x ∷ xs) && not (holds 61 (x ∷ xs))

-- the option in an argument that holds no more than it: a dash and one letter, or two dashes and a name
abbrev pub at_letter : Options → List ℕ → Option Code
at_letter o [] = None
at_letter o (b ∷ []) = o.short b
at_letter o (b ∷ c ∷ bs) = None

abbrev pub at_spelling : Options → List ℕ → Option Code
at_spelling o argument = elim (form_of argument) [ empty ↦ None | single ↦ None | double ↦ None | double_dashed name ↦ o.long name | dashed letters ↦ at_letter o letters | plain ↦ None ]

-- the code at the spelling in which a kind is written
abbrev pub at_home : Options → Kind → Option Code
at_home o k = at_spelling o (home k)

-- the kind has its own code there
abbrev pub AtHome : Options → Kind → Type 0
AtHome o k = at_home o k ≡ Some (Of k)

-- some spelling gives a code that makes flags of the kind
pub data Given (o : Options) (k : Kind) : Type 0 where
  by_letter : (b : ℕ) (c : Code) → o.short b ≡ Some c → (about c).makes ≡ k → Given o k
  by_name : (n : List ℕ) (c : Code) → o.long n ≡ Some c → (about c).makes ≡ k → Given o k

-- Letters are ASCII, and names are names. Where a spelling gives a kind, that kind is at home.
pub record Lawful (o : Options) : Type 0 where
  pub letters : (b : ℕ) → 128 ≤ b → o.short b ≡ None
  pub names : (n : List ℕ) → is_name n ≡ false → o.long n ≡ None
  pub homes : (k : Kind) → Given o k → AtHome o k

-- whether a kind is in the table
abbrev pub known : Options → Kind → Bool
known o k = elim (at_home o k) [ None ↦ false | Some c ↦ nat_eq (about c).number (about (Of k)).number ]

-- A kind is in a table exactly when it is at home there, and exactly when some spelling gives it.
pub record WaysAgree (o : Options) (k : Kind) : Type 0 where
  pub home_known : AtHome o k → known o k ≡ true
  pub known_home : known o k ≡ true → AtHome o k
  pub given_known : Given o k → known o k ≡ true
  pub known_given : known o k ≡ true → Given o k
