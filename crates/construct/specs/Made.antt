-- The flags that an option gives of its argument, by the option's code. Assumes nothing.
use Rattle.std.specs.Prelude.{ℕ, List, [], ◌∷◌, length, Some, None, Option}
use Rattle.std.specs.Option.{option_map, option_to_list}
use Rattle.flags.specs.Codes.{about}
use Rattle.flags.specs.Meaning.{Bytes, Meaning}
use Rattle.flags.specs.declared.kinds.Code.{Code}
use Rattle.flags.specs.declared.kinds.Code.TheVariants.{Of, Debuginfo, Optimize}
use Rattle.flags.specs.declared.kinds.Takes.TheVariants.{Nothing, List as list, One}
use Rattle.flags.specs.declared.kinds.Kind.TheVariants as kind
use Rattle.opt.specs.Opt as opt

-- the one flag, where the option takes the whole argument; a bare option takes none of it
abbrev pub single : Code → Bytes → Option Meaning
single (Of kind.Help) a = (about (Of kind.Help)).flag
single (Of kind.Cfg) a = opt.cfg_of a
single (Of kind.LibrarySearchPath) a = opt.library_search_path_of a
single (Of kind.Link) a = opt.link_of a
single (Of kind.CrateType) a = None
single (Of kind.CrateName) a = opt.crate_name_of a
single (Of kind.Edition) a = opt.edition_of a
single (Of kind.Emit) a = None
single (Of kind.Print) a = opt.print_of a
single (Of kind.Out) a = opt.out_of a
single (Of kind.OutDir) a = opt.out_dir_of a
single (Of kind.Explain) a = opt.explain_of a
single (Of kind.Test) a = (about (Of kind.Test)).flag
single (Of kind.Target) a = opt.target_of a
single (Of kind.Allow) a = opt.allow_of a
single (Of kind.Warn) a = opt.warn_of a
single (Of kind.ForceWarn) a = opt.force_warn_of a
single (Of kind.Deny) a = opt.deny_of a
single (Of kind.Forbid) a = opt.forbid_of a
single (Of kind.CapLints) a = opt.cap_lints_of a
single (Of kind.Codegen) a = opt.codegen_of a
single (Of kind.Version) a = (about (Of kind.Version)).flag
single (Of kind.Verbose) a = (about (Of kind.Verbose)).flag
single (Of kind.Extern) a = opt.extern_of a
single (Of kind.ExternLocation) a = opt.extern_location_of a
single (Of kind.Sysroot) a = opt.sysroot_of a
single (Of kind.Z) a = opt.z_of a
single (Of kind.ErrorFormat) a = opt.error_format_of a
single (Of kind.Json) a = opt.json_of a
single (Of kind.Color) a = opt.color_of a
single (Of kind.RemapPathPrefix) a = opt.remap_path_prefix_of a
single Debuginfo a = (about Debuginfo).flag
single Optimize a = (about Optimize).flag

-- the first flag, and the place behind what it used up
abbrev pub used_up : Bytes → Option Meaning → Option (Meaning × ℕ)
used_up a o = option_map (λ m. (m, length a)) o

abbrev pub first_made : Code → Bytes → Option (Meaning × ℕ)
first_made (Of kind.Help) a = used_up a (single (Of kind.Help) a)
first_made (Of kind.Cfg) a = used_up a (single (Of kind.Cfg) a)
first_made (Of kind.LibrarySearchPath) a = used_up a (single (Of kind.LibrarySearchPath) a)
first_made (Of kind.Link) a = used_up a (single (Of kind.Link) a)
first_made (Of kind.CrateType) a = opt.crate_type_of a
first_made (Of kind.CrateName) a = used_up a (single (Of kind.CrateName) a)
first_made (Of kind.Edition) a = used_up a (single (Of kind.Edition) a)
first_made (Of kind.Emit) a = opt.emit_of a
first_made (Of kind.Print) a = used_up a (single (Of kind.Print) a)
first_made (Of kind.Out) a = used_up a (single (Of kind.Out) a)
first_made (Of kind.OutDir) a = used_up a (single (Of kind.OutDir) a)
first_made (Of kind.Explain) a = used_up a (single (Of kind.Explain) a)
first_made (Of kind.Test) a = used_up a (single (Of kind.Test) a)
first_made (Of kind.Target) a = used_up a (single (Of kind.Target) a)
first_made (Of kind.Allow) a = used_up a (single (Of kind.Allow) a)
first_made (Of kind.Warn) a = used_up a (single (Of kind.Warn) a)
first_made (Of kind.ForceWarn) a = used_up a (single (Of kind.ForceWarn) a)
first_made (Of kind.Deny) a = used_up a (single (Of kind.Deny) a)
first_made (Of kind.Forbid) a = used_up a (single (Of kind.Forbid) a)
first_made (Of kind.CapLints) a = used_up a (single (Of kind.CapLints) a)
first_made (Of kind.Codegen) a = used_up a (single (Of kind.Codegen) a)
first_made (Of kind.Version) a = used_up a (single (Of kind.Version) a)
first_made (Of kind.Verbose) a = used_up a (single (Of kind.Verbose) a)
first_made (Of kind.Extern) a = used_up a (single (Of kind.Extern) a)
first_made (Of kind.ExternLocation) a = used_up a (single (Of kind.ExternLocation) a)
first_made (Of kind.Sysroot) a = used_up a (single (Of kind.Sysroot) a)
first_made (Of kind.Z) a = used_up a (single (Of kind.Z) a)
first_made (Of kind.ErrorFormat) a = used_up a (single (Of kind.ErrorFormat) a)
first_made (Of kind.Json) a = used_up a (single (Of kind.Json) a)
first_made (Of kind.Color) a = used_up a (single (Of kind.Color) a)
first_made (Of kind.RemapPathPrefix) a = used_up a (single (Of kind.RemapPathPrefix) a)
first_made Debuginfo a = used_up a (single Debuginfo a)
first_made Optimize a = used_up a (single Optimize a)

-- all the flags, in order
abbrev pub all_made : Code → Bytes → List Meaning
all_made (Of kind.Help) a = option_to_list (single (Of kind.Help) a)
all_made (Of kind.Cfg) a = option_to_list (single (Of kind.Cfg) a)
all_made (Of kind.LibrarySearchPath) a = option_to_list (single (Of kind.LibrarySearchPath) a)
all_made (Of kind.Link) a = option_to_list (single (Of kind.Link) a)
all_made (Of kind.CrateType) a = opt.crate_types_of a
all_made (Of kind.CrateName) a = option_to_list (single (Of kind.CrateName) a)
all_made (Of kind.Edition) a = option_to_list (single (Of kind.Edition) a)
all_made (Of kind.Emit) a = opt.emits_of a
all_made (Of kind.Print) a = option_to_list (single (Of kind.Print) a)
all_made (Of kind.Out) a = option_to_list (single (Of kind.Out) a)
all_made (Of kind.OutDir) a = option_to_list (single (Of kind.OutDir) a)
all_made (Of kind.Explain) a = option_to_list (single (Of kind.Explain) a)
all_made (Of kind.Test) a = option_to_list (single (Of kind.Test) a)
all_made (Of kind.Target) a = option_to_list (single (Of kind.Target) a)
all_made (Of kind.Allow) a = option_to_list (single (Of kind.Allow) a)
all_made (Of kind.Warn) a = option_to_list (single (Of kind.Warn) a)
all_made (Of kind.ForceWarn) a = option_to_list (single (Of kind.ForceWarn) a)
all_made (Of kind.Deny) a = option_to_list (single (Of kind.Deny) a)
all_made (Of kind.Forbid) a = option_to_list (single (Of kind.Forbid) a)
all_made (Of kind.CapLints) a = option_to_list (single (Of kind.CapLints) a)
all_made (Of kind.Codegen) a = option_to_list (single (Of kind.Codegen) a)
all_made (Of kind.Version) a = option_to_list (single (Of kind.Version) a)
all_made (Of kind.Verbose) a = option_to_list (single (Of kind.Verbose) a)
all_made (Of kind.Extern) a = option_to_list (single (Of kind.Extern) a)
all_made (Of kind.ExternLocation) a = option_to_list (single (Of kind.ExternLocation) a)
all_made (Of kind.Sysroot) a = option_to_list (single (Of kind.Sysroot) a)
all_made (Of kind.Z) a = option_to_list (single (Of kind.Z) a)
all_made (Of kind.ErrorFormat) a = option_to_list (single (Of kind.ErrorFormat) a)
all_made (Of kind.Json) a = option_to_list (single (Of kind.Json) a)
all_made (Of kind.Color) a = option_to_list (single (Of kind.Color) a)
all_made (Of kind.RemapPathPrefix) a = option_to_list (single (Of kind.RemapPathPrefix) a)
all_made Debuginfo a = option_to_list (single Debuginfo a)
all_made Optimize a = option_to_list (single Optimize a)

-- the first flag and, of a list, those that stand behind its place
abbrev pub heads : Option (Meaning × ℕ) → List Meaning
heads None = []
heads (Some p) = p.0 ∷ []

abbrev pub from_first : Code → Bytes → Option (Meaning × ℕ) → List Meaning
from_first c a r = elim (about c).takes [ Nothing ↦ heads r | list ↦ opt.onward (all_made c) a r | One ↦ heads r ]
