-- The derived `==` of flags tells whether they mean the same. Assumes nothing.
use Rattle.std.proofs.Common.{◌≡◌, ℕ, Bool, List, Option, Bor, sym, subst, rules}
use Rattle.std.specs.Bool.{Decides}
use Rattle.std.specs.Cmp.Lexicographic.{pointwise, pointwise_decides}
use Rattle.words.specs.contracts.link.ModifierPartialEq.TheImpl as modifier
use Rattle.words.specs.declared.link.LibraryKind.{LibraryKind}
use Rattle.words.specs.declared.link.LinkKind.{LinkKind}
use Rattle.words.specs.declared.link.Modifier.{Modifier}
use Rattle.words.specs.declared.output.CrateType.{CrateType}
use Rattle.words.specs.declared.output.Emit.{Emit}
use Rattle.words.specs.declared.report.LintLevel.{LintLevel}
use Rattle.words.specs.declared.report.ErrorFormat.{ErrorFormat}
use Rattle.words.specs.declared.report.Color.{Color}
use Rattle.flags.specs.Meaning.{Bytes, meaning, TellsEqual}
use Rattle.flags.specs.contracts.flag.FlagPartialEq.TheImpl as derived
use Rattle.flags.specs.declared.flag.Flag.{Flag}
use Rattle.flags.specs.declared.flag.Flag.TheVariants as flag
use Rattle.flags.specs.declared.modifiers.ModifierList.{ModifierList}

same_modifier : (m n : Modifier) → Decides ((modifier.ghosts).eq m n) (m ≡ n)
same_modifier m n = search rules

same_modifiers : (ms ns : List Modifier) → Decides (pointwise (modifier.ghosts).eq ms ns) (ms ≡ ns)
same_modifiers = pointwise_decides same_modifier

abbrev Tells : Flag → Flag → Type 0
Tells a b = TellsEqual ((derived.ghosts).eq a b) (meaning a) (meaning b)

-- the kinds by their fields, so many at once as the search can do
module _ (b : Flag) where
  bare : Tells flag.Help b × Tells flag.Test b × Tells flag.Version b × Tells flag.Verbose b
  bare = search rules

  edition : (n : ℕ) → Tells (flag.Edition n) b
  edition n = search rules

  crate_type : (w : CrateType) → Tells (flag.CrateType w) b
  crate_type w = search rules

  emit : (w : Emit) → Tells (flag.Emit w) b
  emit w = search rules

  cap_lints : (w : LintLevel) → Tells (flag.CapLints w) b
  cap_lints w = search rules

  error_format : (w : ErrorFormat) → Tells (flag.ErrorFormat w) b
  error_format w = search rules

  color : (w : Color) → Tells (flag.Color w) b
  color w = search rules

  name : (x : Bor Bytes) → Tells (flag.CrateName x) b × Tells (flag.Print x) b × Tells (flag.Explain x) b × Tells (flag.Target x) b
  name x = search rules

  place : (x : Bor Bytes) → Tells (flag.Out x) b × Tells (flag.OutDir x) b × Tells (flag.Sysroot x) b
  place x = search rules

  raw : (x : Bor Bytes) → Tells (flag.Z x) b × Tells (flag.Json x) b
  raw x = search rules

  lint : (x : Bor Bytes) → Tells (flag.Allow x) b × Tells (flag.Warn x) b × Tells (flag.ForceWarn x) b × Tells (flag.Deny x) b × Tells (flag.Forbid x) b
  lint x = search rules

  texts : (x y : Bor Bytes) → Tells (flag.ExternLocation x y) b × Tells (flag.RemapPathPrefix x y) b
  texts x y = search rules

  perhaps : (x : Bor Bytes) (y : Option (Bor Bytes)) → Tells (flag.Cfg x y) b × Tells (flag.Codegen x y) b × Tells (flag.Extern x y) b
  perhaps x y = search rules

  path : (k : LibraryKind) (x : Bor Bytes) → Tells (flag.LibrarySearchPath k x) b
  path k x = search rules

  link : (k : LinkKind) (x : Bor Bytes) (y : Option (Bor Bytes)) (ms : ModifierList) → Tells (flag.Link k x y ms) b
  link k x y ms = search (same_modifiers, rules)

tells : (a b : Flag) → Tells a b
tells flag.Help b = search (bare b)
tells (flag.Cfg x y) b = search (perhaps b x y)
tells (flag.LibrarySearchPath k x) b = path b k x
tells (flag.Link k x y ms) b = link b k x y ms
tells (flag.CrateType w) b = crate_type b w
tells (flag.CrateName x) b = search (name b x)
tells (flag.Edition n) b = edition b n
tells (flag.Emit w) b = emit b w
tells (flag.Print x) b = search (name b x)
tells (flag.Out x) b = search (place b x)
tells (flag.OutDir x) b = search (place b x)
tells (flag.Explain x) b = search (name b x)
tells flag.Test b = search (bare b)
tells (flag.Target x) b = search (name b x)
tells (flag.Allow x) b = search (lint b x)
tells (flag.Warn x) b = search (lint b x)
tells (flag.ForceWarn x) b = search (lint b x)
tells (flag.Deny x) b = search (lint b x)
tells (flag.Forbid x) b = search (lint b x)
tells (flag.CapLints w) b = cap_lints b w
tells (flag.Codegen x y) b = search (perhaps b x y)
tells flag.Version b = search (bare b)
tells flag.Verbose b = search (bare b)
tells (flag.Extern x y) b = search (perhaps b x y)
tells (flag.ExternLocation x y) b = search (texts b x y)
tells (flag.Sysroot x) b = search (place b x)
tells (flag.Z x) b = search (raw b x)
tells (flag.ErrorFormat w) b = error_format b w
tells (flag.Json x) b = search (raw b x)
tells (flag.Color w) b = color b w
tells (flag.RemapPathPrefix x y) b = search (texts b x y)

pub told_by : (a b : Flag) (r : Bool) → r ≡ (derived.ghosts).eq a b → TellsEqual r (meaning a) (meaning b)
told_by a b r e = subst (λ t. TellsEqual t (meaning a) (meaning b)) (sym e) (tells a b)
