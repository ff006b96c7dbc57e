-- The flags of an option by what it takes: all of its argument or none of it, or else a list of words. Assumes nothing.
use Rattle.std.proofs.Common.{◌≡◌, ℕ, Bool, cond, eqb, List, Option, refl}
use Rattle.std.specs.Option.{option_to_list}
use Rattle.flags.specs.Codes.{about}
use Rattle.flags.specs.Meaning.{Bytes, Meaning}
use Rattle.flags.specs.declared.kinds.Code.{Code}
use Rattle.flags.specs.declared.kinds.Code.TheVariants.{Of, Debuginfo, Optimize}
use Rattle.flags.specs.declared.kinds.Kind.TheVariants as kind
use Rattle.flags.specs.declared.kinds.Takes.TheVariants.{Nothing, List as list, One}
use Rattle.opt.specs.Opt as opt
use Rattle.construct.specs.Made.{single, used_up, first_made, all_made}

-- of the two options that take a list: `--emit`, or else `--crate-type`
abbrev pub is_emit : Code → Bool
is_emit c = eqb (about c).number (about (Of kind.Emit)).number

abbrev pub first_listed : Code → Bytes → Option (Meaning × ℕ)
first_listed c = cond (is_emit c) opt.emit_of opt.crate_type_of

abbrev pub all_listed : Code → Bytes → List Meaning
all_listed c = cond (is_emit c) opt.emits_of opt.crate_types_of

pub first_by_takes : (c : Code) (a : Bytes) → first_made c a ≡ elim (about c).takes [ Nothing ↦ used_up a (single c a) | list ↦ first_listed c a | One ↦ used_up a (single c a) ]
first_by_takes (Of kind.Help) a = refl
first_by_takes (Of kind.Cfg) a = refl
first_by_takes (Of kind.LibrarySearchPath) a = refl
first_by_takes (Of kind.Link) a = refl
first_by_takes (Of kind.CrateType) a = refl
first_by_takes (Of kind.CrateName) a = refl
first_by_takes (Of kind.Edition) a = refl
first_by_takes (Of kind.Emit) a = refl
first_by_takes (Of kind.Print) a = refl
first_by_takes (Of kind.Out) a = refl
first_by_takes (Of kind.OutDir) a = refl
first_by_takes (Of kind.Explain) a = refl
first_by_takes (Of kind.Test) a = refl
first_by_takes (Of kind.Target) a = refl
first_by_takes (Of kind.Allow) a = refl
first_by_takes (Of kind.Warn) a = refl
first_by_takes (Of kind.ForceWarn) a = refl
first_by_takes (Of kind.Deny) a = refl
first_by_takes (Of kind.Forbid) a = refl
first_by_takes (Of kind.CapLints) a = refl
first_by_takes (Of kind.Codegen) a = refl
first_by_takes (Of kind.Version) a = refl
first_by_takes (Of kind.Verbose) a = refl
first_by_takes (Of kind.Extern) a = refl
first_by_takes (Of kind.ExternLocation) a = refl
first_by_takes (Of kind.Sysroot) a = refl
first_by_takes (Of kind.Z) a = refl
first_by_takes (Of kind.ErrorFormat) a = refl
first_by_takes (Of kind.Json) a = refl
first_by_takes (Of kind.Color) a = refl
first_by_takes (Of kind.RemapPathPrefix) a = refl
first_by_takes Debuginfo a = refl
first_by_takes Optimize a = refl

pub all_by_takes : (c : Code) (a : Bytes) → all_made c a ≡ elim (about c).takes [ Nothing ↦ option_to_list (single c a) | list ↦ all_listed c a | One ↦ option_to_list (single c a) ]
all_by_takes (Of kind.Help) a = refl
all_by_takes (Of kind.Cfg) a = refl
all_by_takes (Of kind.LibrarySearchPath) a = refl
all_by_takes (Of kind.Link) a = refl
all_by_takes (Of kind.CrateType) a = refl
all_by_takes (Of kind.CrateName) a = refl
all_by_takes (Of kind.Edition) a = refl
all_by_takes (Of kind.Emit) a = refl
all_by_takes (Of kind.Print) a = refl
all_by_takes (Of kind.Out) a = refl
all_by_takes (Of kind.OutDir) a = refl
all_by_takes (Of kind.Explain) a = refl
all_by_takes (Of kind.Test) a = refl
all_by_takes (Of kind.Target) a = refl
all_by_takes (Of kind.Allow) a = refl
all_by_takes (Of kind.Warn) a = refl
all_by_takes (Of kind.ForceWarn) a = refl
all_by_takes (Of kind.Deny) a = refl
all_by_takes (Of kind.Forbid) a = refl
all_by_takes (Of kind.CapLints) a = refl
all_by_takes (Of kind.Codegen) a = refl
all_by_takes (Of kind.Version) a = refl
all_by_takes (Of kind.Verbose) a = refl
all_by_takes (Of kind.Extern) a = refl
all_by_takes (Of kind.ExternLocation) a = refl
all_by_takes (Of kind.Sysroot) a = refl
all_by_takes (Of kind.Z) a = refl
all_by_takes (Of kind.ErrorFormat) a = refl
all_by_takes (Of kind.Json) a = refl
all_by_takes (Of kind.Color) a = refl
all_by_takes (Of kind.RemapPathPrefix) a = refl
all_by_takes Debuginfo a = refl
all_by_takes Optimize a = refl
