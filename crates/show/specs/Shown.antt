-- A flag as a person reads it: the name of its kind, and then its fields, each behind a space. Assumes nothing.
use Rattle.std.specs.Prelude.{ℕ, List, [], ◌∷◌, ◌++◌, Some, None, codes, decimal, Option}
use Rattle.std.specs.List.{flat_map}
use Rattle.escape.specs.Escaped.{escaped, quoted}
use Rattle.words.specs.Spellings as word
use Rattle.words.specs.declared.link.Modifier.{Modifier}
use Rattle.flags.specs.Codes.{kind_of}
use Rattle.flags.specs.Meaning.{Bytes, Meaning, help, cfg, library_path, link, crate_type, crate_name, edition, emit, print, out, out_dir, explain, test, target, allow, warn, force_warn, deny, forbid, cap_lints, codegen, version, verbose, extern, extern_location, sysroot, z, error_format, json, color, remap_path_prefix}
use Rattle.flags.specs.declared.kinds.Kind.{Kind}
use Rattle.flags.specs.declared.kinds.Kind.TheVariants as kind

abbrev pub kind_name : Kind → Bytes
kind_name kind.Help = codes "Help"
kind_name kind.Cfg = codes "Cfg"
kind_name kind.LibrarySearchPath = codes "LibrarySearchPath"
kind_name kind.Link = codes "Link"
kind_name kind.CrateType = codes "CrateType"
kind_name kind.CrateName = codes "CrateName"
kind_name kind.Edition = codes "Edition"
kind_name kind.Emit = codes "Emit"
kind_name kind.Print = codes "Print"
kind_name kind.Out = codes "Out"
kind_name kind.OutDir = codes "OutDir"
kind_name kind.Explain = codes "Explain"
kind_name kind.Test = codes "Test"
kind_name kind.Target = codes "Target"
kind_name kind.Allow = codes "Allow"
kind_name kind.Warn = codes "Warn"
kind_name kind.ForceWarn = codes "ForceWarn"
kind_name kind.Deny = codes "Deny"
kind_name kind.Forbid = codes "Forbid"
kind_name kind.CapLints = codes "CapLints"
kind_name kind.Codegen = codes "Codegen"
kind_name kind.Version = codes "Version"
kind_name kind.Verbose = codes "Verbose"
kind_name kind.Extern = codes "Extern"
kind_name kind.ExternLocation = codes "ExternLocation"
kind_name kind.Sysroot = codes "Sysroot"
kind_name kind.Z = codes "Z"
kind_name kind.ErrorFormat = codes "ErrorFormat"
kind_name kind.Json = codes "Json"
kind_name kind.Color = codes "Color"
kind_name kind.RemapPathPrefix = codes "RemapPathPrefix"

-- texts and paths stand in quotes, and a dash for one that is missing
abbrev pub text : Bytes → Bytes
text bs = codes " " ++ quoted bs

abbrev pub quoted_or_dash : Option Bytes → Bytes
quoted_or_dash (Some bs) = quoted bs
quoted_or_dash None = codes "-"

abbrev pub text_or_dash : Option Bytes → Bytes
text_or_dash bs = codes " " ++ quoted_or_dash bs

-- a word stands as it is spelled; no spelling holds a byte with an escape
abbrev pub spelled : Bytes → Bytes
spelled bs = codes " " ++ escaped bs

-- the modifiers of a link, with commas between them
abbrev pub modifier : Modifier → Bytes
modifier m = escaped (word.modifier m)

abbrev pub further : List Modifier → Bytes
further ms = flat_map (λ m. codes "," ++ modifier m) ms

abbrev pub modifiers : List Modifier → Bytes
modifiers [] = []
modifiers (m ∷ ms) = modifier m ++ further ms

abbrev pub list : List Modifier → Bytes
list ms = codes " [" ++ (modifiers ms ++ codes "]")

abbrev pub year : ℕ → Bytes
year n = codes " " ++ decimal n

abbrev pub fields : Meaning → Bytes
fields help = []
fields (cfg name value) = text name ++ text_or_dash value
fields (library_path k path) = spelled (word.library_kind k) ++ text path
fields (link k ms name rename) = spelled (word.link_kind k) ++ (list ms ++ (text name ++ text_or_dash rename))
fields (crate_type w) = spelled (word.crate_type w)
fields (crate_name bs) = text bs
fields (edition n) = year n
fields (emit w) = spelled (word.emit w)
fields (print bs) = text bs
fields (out bs) = text bs
fields (out_dir bs) = text bs
fields (explain bs) = text bs
fields test = []
fields (target bs) = text bs
fields (allow bs) = text bs
fields (warn bs) = text bs
fields (force_warn bs) = text bs
fields (deny bs) = text bs
fields (forbid bs) = text bs
fields (cap_lints w) = spelled (word.lint_level w)
fields (codegen opt value) = text opt ++ text_or_dash value
fields version = []
fields verbose = []
fields (extern name path) = text name ++ text_or_dash path
fields (extern_location name location) = text name ++ text location
fields (sysroot bs) = text bs
fields (z bs) = text bs
fields (error_format w) = spelled (word.error_format w)
fields (json bs) = text bs
fields (color w) = spelled (word.color w)
fields (remap_path_prefix from to) = text from ++ text to

abbrev pub shown : Meaning → Bytes
shown m = kind_name (kind_of m) ++ fields m
