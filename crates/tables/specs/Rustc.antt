-- The options of rustc, from the list of its command-line arguments in the rustc book. Assumes nothing.
use Rattle.std.specs.Prelude.{◌≡◌, ℕ, true, List, [], ◌∷◌, Some, codes, Option}
use Rattle.std.specs.List.{AllByRecursion, find}
use Rattle.std.specs.Option.{option_map}
use Rattle.std.specs.Str.{bytes_eq}
use Rattle.flags.specs.declared.kinds.Code.{Code}
use Rattle.flags.specs.declared.kinds.Code.TheVariants.{Of, Debuginfo, Optimize}
use Rattle.flags.specs.declared.kinds.Kind.TheVariants as kind
use Rattle.words.specs.Reading.{clean}
use Rattle.tables.specs.Tables.{Options}

pub record Spelling : Type 0 where
  pub name : List ℕ
  pub code : Code

abbrev pub row : List ℕ → Code → Spelling
row n c = record { name = n; code = c }

abbrev pub letters : List Spelling
letters =
    row (codes "h") (Of kind.Help)
    ∷ row (codes "L") (Of kind.LibrarySearchPath)
    ∷ row (codes "l") (Of kind.Link)
    ∷ row (codes "g") Debuginfo
    ∷ row (codes "O") Optimize
    ∷ row (codes "o") (Of kind.Out)
    ∷ row (codes "A") (Of kind.Allow)
    ∷ row (codes "W") (Of kind.Warn)
    ∷ row (codes "D") (Of kind.Deny)
    ∷ row (codes "F") (Of kind.Forbid)
    ∷ row (codes "C") (Of kind.Codegen)
    ∷ row (codes "V") (Of kind.Version)
    ∷ row (codes "v") (Of kind.Verbose)
    ∷ row (codes "Z") (Of kind.Z)
    ∷ []

abbrev pub long_options : List Spelling
long_options =
    row (codes "help") (Of kind.Help)
    ∷ row (codes "cfg") (Of kind.Cfg)
    ∷ row (codes "crate-type") (Of kind.CrateType)
    ∷ row (codes "crate-name") (Of kind.CrateName)
    ∷ row (codes "edition") (Of kind.Edition)
    ∷ row (codes "emit") (Of kind.Emit)
    ∷ row (codes "print") (Of kind.Print)
    ∷ row (codes "out-dir") (Of kind.OutDir)
    ∷ row (codes "explain") (Of kind.Explain)
    ∷ row (codes "test") (Of kind.Test)
    ∷ row (codes "target") (Of kind.Target)
    ∷ row (codes "allow") (Of kind.Allow)
    ∷ row (codes "warn") (Of kind.Warn)
    ∷ row (codes "force-warn") (Of kind.ForceWarn)
    ∷ row (codes "deny") (Of kind.Deny)
    ∷ row (codes "forbid") (Of kind.Forbid)
    ∷ row (codes "cap-lints") (Of kind.CapLints)
    ∷ row (codes "codegen") (Of kind.Codegen)
    ∷ row (codes "version") (Of kind.Version)
    ∷ row (codes "verbose") (Of kind.Verbose)
    ∷ row (codes "extern") (Of kind.Extern)
    ∷ row (codes "extern-location") (Of kind.ExternLocation)
    ∷ row (codes "sysroot") (Of kind.Sysroot)
    ∷ row (codes "error-format") (Of kind.ErrorFormat)
    ∷ row (codes "json") (Of kind.Json)
    ∷ row (codes "color") (Of kind.Color)
    ∷ row (codes "remap-path-prefix") (Of kind.RemapPathPrefix)
    ∷ []

-- the code of the first row with a name
abbrev pub code_in : List Spelling → List ℕ → Option Code
code_in rows n = option_map (λ r. r.code) (find (λ r. bytes_eq r.name n) rows)

-- each long name gives its own option, and is clean as a word is
pub record LongNames : Type 0 where
  pub own : AllByRecursion (λ r. code_in long_options r.name ≡ Some r.code) long_options
  pub clean_names : AllByRecursion (λ r. clean r.name ≡ true) long_options

abbrev pub rustc : Options
rustc = record { short = λ b. code_in letters (b ∷ []); long = code_in long_options }
