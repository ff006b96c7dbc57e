-- The codes of options: one entry for each. Assumes nothing.
use Rattle.std.specs.Prelude.{◌≡◌, ℕ, List, [], ◌∷◌, ◌++◌, map, Some, None, codes, Option, Result}
use Rattle.std.specs.List.{slice_get}
use Rattle.std.specs.Option.{ok_or}
use Rattle.std.specs.Result.{result_ok}
use Rattle.flags.specs.Meaning.{Meaning, help, cfg, library_path, link, crate_type, crate_name, edition, emit, print, out, out_dir, explain, test, target, allow, warn, force_warn, deny, forbid, cap_lints, codegen, version, verbose, extern, extern_location, sysroot, z, error_format, json, color, remap_path_prefix}
use Rattle.flags.specs.declared.kinds.Code.{Code}
use Rattle.flags.specs.declared.kinds.Code.TheVariants.{Of, Debuginfo, Optimize}
use Rattle.flags.specs.declared.kinds.Kind.{Kind}
use Rattle.flags.specs.declared.kinds.Kind.TheVariants as kind
use Rattle.flags.specs.declared.kinds.Takes.{Takes}
use Rattle.flags.specs.declared.kinds.UnknownCode.{UnknownCode}
use Rattle.flags.specs.declared.kinds.Takes.TheVariants.{Nothing, List as list, One}

-- a code's number, the kind that it makes, what it takes, and the flag of a bare one
pub record Entry : Type 0 where
  pub number : ℕ
  pub makes : Kind
  pub takes : Takes
  pub flag : Option Meaning

abbrev pub bare : ℕ → Kind → Meaning → Entry
bare n k m = record { number = n; makes = k; takes = Nothing; flag = Some m }

abbrev pub listed : ℕ → Kind → Entry
listed n k = record { number = n; makes = k; takes = list; flag = None }

abbrev pub taking : ℕ → Kind → Entry
taking n k = record { number = n; makes = k; takes = One; flag = None }

abbrev pub about : Code → Entry
about (Of kind.Help) = bare 0 kind.Help help
about (Of kind.Cfg) = taking 1 kind.Cfg
about (Of kind.LibrarySearchPath) = taking 2 kind.LibrarySearchPath
about (Of kind.Link) = taking 3 kind.Link
about (Of kind.CrateType) = listed 4 kind.CrateType
about (Of kind.CrateName) = taking 5 kind.CrateName
about (Of kind.Edition) = taking 6 kind.Edition
about (Of kind.Emit) = listed 7 kind.Emit
about (Of kind.Print) = taking 8 kind.Print
about (Of kind.Out) = taking 9 kind.Out
about (Of kind.OutDir) = taking 10 kind.OutDir
about (Of kind.Explain) = taking 11 kind.Explain
about (Of kind.Test) = bare 12 kind.Test test
about (Of kind.Target) = taking 13 kind.Target
about (Of kind.Allow) = taking 14 kind.Allow
about (Of kind.Warn) = taking 15 kind.Warn
about (Of kind.ForceWarn) = taking 16 kind.ForceWarn
about (Of kind.Deny) = taking 17 kind.Deny
about (Of kind.Forbid) = taking 18 kind.Forbid
about (Of kind.CapLints) = taking 19 kind.CapLints
about (Of kind.Codegen) = taking 20 kind.Codegen
about (Of kind.Version) = bare 21 kind.Version version
about (Of kind.Verbose) = bare 22 kind.Verbose verbose
about (Of kind.Extern) = taking 23 kind.Extern
about (Of kind.ExternLocation) = taking 24 kind.ExternLocation
about (Of kind.Sysroot) = taking 25 kind.Sysroot
about (Of kind.Z) = taking 26 kind.Z
about (Of kind.ErrorFormat) = taking 27 kind.ErrorFormat
about (Of kind.Json) = taking 28 kind.Json
about (Of kind.Color) = taking 29 kind.Color
about (Of kind.RemapPathPrefix) = taking 30 kind.RemapPathPrefix
about Debuginfo = bare 31 kind.Codegen (codegen (codes "debuginfo") (Some (codes "2")))
about Optimize = bare 32 kind.Codegen (codegen (codes "opt-level") (Some (codes "2")))

abbrev pub kinds : List Kind
kinds =
    kind.Help
    ∷ kind.Cfg
    ∷ kind.LibrarySearchPath
    ∷ kind.Link
    ∷ kind.CrateType
    ∷ kind.CrateName
    ∷ kind.Edition
    ∷ kind.Emit
    ∷ kind.Print
    ∷ kind.Out
    ∷ kind.OutDir
    ∷ kind.Explain
    ∷ kind.Test
    ∷ kind.Target
    ∷ kind.Allow
    ∷ kind.Warn
    ∷ kind.ForceWarn
    ∷ kind.Deny
    ∷ kind.Forbid
    ∷ kind.CapLints
    ∷ kind.Codegen
    ∷ kind.Version
    ∷ kind.Verbose
    ∷ kind.Extern
    ∷ kind.ExternLocation
    ∷ kind.Sysroot
    ∷ kind.Z
    ∷ kind.ErrorFormat
    ∷ kind.Json
    ∷ kind.Color
    ∷ kind.RemapPathPrefix
    ∷ []

-- the codes in the order of their numbers: those of the kinds, and two more
abbrev pub all_codes : List Code
all_codes = map Of kinds ++ Debuginfo ∷ Optimize ∷ []

abbrev pub code_of : ℕ → Option Code
code_of n = slice_get all_codes n

-- a number stands for a code exactly when it is the code's number
pub record TellsCode (n : ℕ) : Type 0 where
  pub there : (c : Code) → (about c).number ≡ n → code_of n ≡ Some c
  pub back : (c : Code) → code_of n ≡ Some c → (about c).number ≡ n

-- a number gives its code, or where it has none an error that names it
pub record Decodes (n : ℕ) (r : Result Code UnknownCode) : Type 0 where
  pub answer : result_ok r ≡ code_of n
  pub value : r ≡ ok_or (code_of n) (record { 0 = n })
  pub exact : TellsCode n

-- the one spelling in which a kind is written
abbrev pub home : Kind → List ℕ
home kind.Help = codes "--help"
home kind.Cfg = codes "--cfg"
home kind.LibrarySearchPath = codes "-L"
home kind.Link = codes "-l"
home kind.CrateType = codes "--crate-type"
home kind.CrateName = codes "--crate-name"
home kind.Edition = codes "--edition"
home kind.Emit = codes "--emit"
home kind.Print = codes "--print"
home kind.Out = codes "-o"
home kind.OutDir = codes "--out-dir"
home kind.Explain = codes "--explain"
home kind.Test = codes "--test"
home kind.Target = codes "--target"
home kind.Allow = codes "--allow"
home kind.Warn = codes "--warn"
home kind.ForceWarn = codes "--force-warn"
home kind.Deny = codes "--deny"
home kind.Forbid = codes "--forbid"
home kind.CapLints = codes "--cap-lints"
home kind.Codegen = codes "-C"
home kind.Version = codes "--version"
home kind.Verbose = codes "--verbose"
home kind.Extern = codes "--extern"
home kind.ExternLocation = codes "--extern-location"
home kind.Sysroot = codes "--sysroot"
home kind.Z = codes "-Z"
home kind.ErrorFormat = codes "--error-format"
home kind.Json = codes "--json"
home kind.Color = codes "--color"
home kind.RemapPathPrefix = codes "--remap-path-prefix"

-- the kind of a flag
abbrev pub kind_of : Meaning → Kind
kind_of help = kind.Help
kind_of (cfg name value) = kind.Cfg
kind_of (library_path k path) = kind.LibrarySearchPath
kind_of (link k mods name rename) = kind.Link
kind_of (crate_type x) = kind.CrateType
kind_of (crate_name x) = kind.CrateName
kind_of (edition x) = kind.Edition
kind_of (emit x) = kind.Emit
kind_of (print x) = kind.Print
kind_of (out x) = kind.Out
kind_of (out_dir x) = kind.OutDir
kind_of (explain x) = kind.Explain
kind_of test = kind.Test
kind_of (target x) = kind.Target
kind_of (allow x) = kind.Allow
kind_of (warn x) = kind.Warn
kind_of (force_warn x) = kind.ForceWarn
kind_of (deny x) = kind.Deny
kind_of (forbid x) = kind.Forbid
kind_of (cap_lints x) = kind.CapLints
kind_of (codegen opt value) = kind.Codegen
kind_of version = kind.Version
kind_of verbose = kind.Verbose
kind_of (extern name path) = kind.Extern
kind_of (extern_location name location) = kind.ExternLocation
kind_of (sysroot x) = kind.Sysroot
kind_of (z x) = kind.Z
kind_of (error_format x) = kind.ErrorFormat
kind_of (json x) = kind.Json
kind_of (color x) = kind.Color
kind_of (remap_path_prefix from to) = kind.RemapPathPrefix
