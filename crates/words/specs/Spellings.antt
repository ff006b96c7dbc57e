-- The words of each set in their order, as the rustc book spells them. Assumes nothing.
use Rattle.std.specs.Prelude.{ℕ, List, [], ◌∷◌, ◌++◌, map, codes}
use Rattle.words.specs.declared.link.LibraryKind.{LibraryKind}
use Rattle.words.specs.declared.link.LibraryKind.TheVariants as library
use Rattle.words.specs.declared.link.LinkKind.{LinkKind}
use Rattle.words.specs.declared.link.LinkKind.TheVariants as kind
use Rattle.words.specs.declared.link.Sign.{Sign}
use Rattle.words.specs.declared.link.Sign.TheVariants as turn
use Rattle.words.specs.declared.link.LinkModifier.{LinkModifier}
use Rattle.words.specs.declared.link.LinkModifier.TheVariants as link
use Rattle.words.specs.declared.output.CrateType.{CrateType}
use Rattle.words.specs.declared.output.CrateType.TheVariants as made
use Rattle.words.specs.declared.output.Emit.{Emit}
use Rattle.words.specs.declared.output.Emit.TheVariants as out
use Rattle.words.specs.declared.report.LintLevel.{LintLevel}
use Rattle.words.specs.declared.report.LintLevel.TheVariants as level
use Rattle.words.specs.declared.report.ErrorFormat.{ErrorFormat}
use Rattle.words.specs.declared.report.ErrorFormat.TheVariants as format
use Rattle.words.specs.declared.report.Color.{Color}
use Rattle.words.specs.declared.report.Color.TheVariants as colour
use Rattle.words.specs.declared.link.Modifier.{Modifier}

abbrev pub library_kinds : List LibraryKind
library_kinds = library.Dependency ∷ library.Crate ∷ library.Native ∷ library.Framework ∷ library.All ∷ []

abbrev pub library_kind : LibraryKind → List ℕ
library_kind library.Dependency = codes "dependency"
library_kind library.Crate = codes "crate"
library_kind library.Native = codes "native"
library_kind library.Framework = codes "framework"
library_kind library.All = codes "all"

abbrev pub link_kinds : List LinkKind
link_kinds = kind.Static ∷ kind.Framework ∷ kind.Dylib ∷ []

abbrev pub link_kind : LinkKind → List ℕ
link_kind kind.Static = codes "static"
link_kind kind.Framework = codes "framework"
link_kind kind.Dylib = codes "dylib"

abbrev pub signs : List Sign
signs = turn.Enable ∷ turn.Disable ∷ []

abbrev pub sign : Sign → List ℕ
sign turn.Enable = codes "+"
sign turn.Disable = codes "-"

abbrev pub link_modifiers : List LinkModifier
link_modifiers = link.Bundle ∷ link.Verbatim ∷ link.WholeArchive ∷ link.AsNeeded ∷ []

abbrev pub link_modifier : LinkModifier → List ℕ
link_modifier link.Bundle = codes "bundle"
link_modifier link.Verbatim = codes "verbatim"
link_modifier link.WholeArchive = codes "whole-archive"
link_modifier link.AsNeeded = codes "as-needed"

abbrev pub crate_types : List CrateType
crate_types = made.Bin ∷ made.Lib ∷ made.Rlib ∷ made.Dylib ∷ made.Cdylib ∷ made.Staticlib ∷ made.ProcMacro ∷ []

abbrev pub crate_type : CrateType → List ℕ
crate_type made.Bin = codes "bin"
crate_type made.Lib = codes "lib"
crate_type made.Rlib = codes "rlib"
crate_type made.Dylib = codes "dylib"
crate_type made.Cdylib = codes "cdylib"
crate_type made.Staticlib = codes "staticlib"
crate_type made.ProcMacro = codes "proc-macro"

abbrev pub emits : List Emit
emits = out.Asm ∷ out.LlvmBc ∷ out.LlvmIr ∷ out.Obj ∷ out.Metadata ∷ out.Link ∷ out.DepInfo ∷ out.Mir ∷ []

abbrev pub emit : Emit → List ℕ
emit out.Asm = codes "asm"
emit out.LlvmBc = codes "llvm-bc"
emit out.LlvmIr = codes "llvm-ir"
emit out.Obj = codes "obj"
emit out.Metadata = codes "metadata"
emit out.Link = codes "link"
emit out.DepInfo = codes "dep-info"
emit out.Mir = codes "mir"

abbrev pub lint_levels : List LintLevel
lint_levels = level.Allow ∷ level.Warn ∷ level.Deny ∷ level.Forbid ∷ []

abbrev pub lint_level : LintLevel → List ℕ
lint_level level.Allow = codes "allow"
lint_level level.Warn = codes "warn"
lint_level level.Deny = codes "deny"
lint_level level.Forbid = codes "forbid"

abbrev pub error_formats : List ErrorFormat
error_formats = format.Human ∷ format.Json ∷ format.Short ∷ []

abbrev pub error_format : ErrorFormat → List ℕ
error_format format.Human = codes "human"
error_format format.Json = codes "json"
error_format format.Short = codes "short"

abbrev pub colors : List Color
colors = colour.Auto ∷ colour.Always ∷ colour.Never ∷ []

abbrev pub color : Color → List ℕ
color colour.Auto = codes "auto"
color colour.Always = codes "always"
color colour.Never = codes "never"

abbrev pub with_sign : Sign → LinkModifier → Modifier
with_sign s w = record { sign = s; word = w }

abbrev pub modifiers : List Modifier
modifiers = map (with_sign turn.Enable) link_modifiers ++ map (with_sign turn.Disable) link_modifiers

-- a sign, and then a word
abbrev pub modifier : Modifier → List ℕ
modifier m = sign m.sign ++ link_modifier m.word
