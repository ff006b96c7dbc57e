-- What a flag means: a value without spelling. Two flags are equal when their meanings are. Assumes nothing.
use Rattle.std.specs.Prelude.{◌≡◌, ℕ, Bool, true, List, Option}
use Rattle.std.specs.Option.{option_map}
use Rattle.words.specs.Lists.{known}
use Rattle.words.specs.Reading.{read}
use Rattle.words.specs.Spellings.{modifiers, modifier}
use Rattle.words.specs.declared.link.LibraryKind.{LibraryKind}
use Rattle.words.specs.declared.link.LinkKind.{LinkKind}
use Rattle.words.specs.declared.link.Modifier.{Modifier}
use Rattle.words.specs.declared.output.CrateType.{CrateType}
use Rattle.words.specs.declared.output.Emit.{Emit}
use Rattle.words.specs.declared.report.LintLevel.{LintLevel}
use Rattle.words.specs.declared.report.ErrorFormat.{ErrorFormat}
use Rattle.words.specs.declared.report.Color.{Color}
use Rattle.flags.specs.declared.flag.Flag.{Flag}
use Rattle.flags.specs.declared.flag.Flag.TheVariants as flag

abbrev pub Bytes : Type 0
Bytes = List ℕ

pub data Meaning : Type 0 where
  help : Meaning
  cfg : (name : Bytes) (value : Option Bytes) → Meaning
  library_path : (kind : LibraryKind) (path : Bytes) → Meaning
  link : (kind : LinkKind) (modifiers : List Modifier) (name : Bytes) (rename : Option Bytes) → Meaning
  crate_type : CrateType → Meaning
  crate_name : Bytes → Meaning
  edition : ℕ → Meaning
  emit : Emit → Meaning
  print : Bytes → Meaning
  out : Bytes → Meaning
  out_dir : Bytes → Meaning
  explain : Bytes → Meaning
  test : Meaning
  target : Bytes → Meaning
  allow : Bytes → Meaning
  warn : Bytes → Meaning
  force_warn : Bytes → Meaning
  deny : Bytes → Meaning
  forbid : Bytes → Meaning
  cap_lints : LintLevel → Meaning
  codegen : (opt : Bytes) (value : Option Bytes) → Meaning
  version : Meaning
  verbose : Meaning
  extern : (name : Bytes) (path : Option Bytes) → Meaning
  extern_location : (name location : Bytes) → Meaning
  sysroot : Bytes → Meaning
  z : Bytes → Meaning
  error_format : ErrorFormat → Meaning
  json : Bytes → Meaning
  color : Color → Meaning
  remap_path_prefix : (from to : Bytes) → Meaning

-- the known modifiers of a list text, in order; other parts count for nothing
abbrev pub known_modifiers : Bytes → List Modifier
known_modifiers list = known (read modifiers modifier) list

abbrev pub meaning : Flag → Meaning
meaning flag.Help = help
meaning (flag.Cfg name value) = cfg name.now (option_map (λ x. x.now) value)
meaning (flag.LibrarySearchPath kind path) = library_path kind path.now
meaning (flag.Link kind name rename list) = link kind (known_modifiers list.text.now) name.now (option_map (λ x. x.now) rename)
meaning (flag.CrateType t) = crate_type t
meaning (flag.CrateName name) = crate_name name.now
meaning (flag.Edition year) = edition year
meaning (flag.Emit e) = emit e
meaning (flag.Print info) = print info.now
meaning (flag.Out path) = out path.now
meaning (flag.OutDir path) = out_dir path.now
meaning (flag.Explain code) = explain code.now
meaning flag.Test = test
meaning (flag.Target triple) = target triple.now
meaning (flag.Allow lint) = allow lint.now
meaning (flag.Warn lint) = warn lint.now
meaning (flag.ForceWarn lint) = force_warn lint.now
meaning (flag.Deny lint) = deny lint.now
meaning (flag.Forbid lint) = forbid lint.now
meaning (flag.CapLints level) = cap_lints level
meaning (flag.Codegen opt value) = codegen opt.now (option_map (λ x. x.now) value)
meaning flag.Version = version
meaning flag.Verbose = verbose
meaning (flag.Extern name path) = extern name.now (option_map (λ x. x.now) path)
meaning (flag.ExternLocation name location) = extern_location name.now location.now
meaning (flag.Sysroot path) = sysroot path.now
meaning (flag.Z text) = z text.now
meaning (flag.ErrorFormat f) = error_format f
meaning (flag.Json config) = json config.now
meaning (flag.Color c) = color c
meaning (flag.RemapPathPrefix from to) = remap_path_prefix from.now to.now

-- r is true exactly when the meanings are equal
pub record TellsEqual (r : Bool) (m n : Meaning) : Type 0 where
  pub equal : r ≡ true → m ≡ n
  pub told : m ≡ n → r ≡ true
