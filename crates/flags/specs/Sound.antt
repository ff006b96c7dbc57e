-- What a flag needs so that it can be written and read back: its text fields are UTF-8, and no field holds the byte that would end it.
-- Assumes nothing.
use Rattle.std.specs.Prelude.{◌≡◌, ℕ, Bool, true, not, ◌&&◌, Some, None, Option}
use Rattle.text.specs.Cuts.{holds}
use Rattle.utf8.specs.Utf8.{utf8}
use Rattle.flags.specs.Meaning.{Bytes, Meaning, help, cfg, library_path, link, crate_type, crate_name, edition, emit, print, out, out_dir, explain, test, target, allow, warn, force_warn, deny, forbid, cap_lints, codegen, version, verbose, extern, extern_location, sysroot, z, error_format, json, color, remap_path_prefix}

-- a field that may be missing
abbrev pub if_there : (Bytes → Bool) → Option Bytes → Bool
if_there passes None = true
if_there passes (Some bs) = passes bs

abbrev pub lacks : ℕ → Bytes → Bool
lacks b bs = not (holds b bs)

abbrev pub texts_utf8 : Meaning → Bool
texts_utf8 help = true
texts_utf8 (cfg n v) = utf8 n && if_there utf8 v
texts_utf8 (library_path k p) = true
texts_utf8 (link k ms n r) = utf8 n && if_there utf8 r
texts_utf8 (crate_type x) = true
texts_utf8 (crate_name x) = utf8 x
texts_utf8 (edition x) = true
texts_utf8 (emit x) = true
texts_utf8 (print x) = utf8 x
texts_utf8 (out x) = true
texts_utf8 (out_dir x) = true
texts_utf8 (explain x) = utf8 x
texts_utf8 test = true
texts_utf8 (target x) = utf8 x
texts_utf8 (allow x) = utf8 x
texts_utf8 (warn x) = utf8 x
texts_utf8 (force_warn x) = utf8 x
texts_utf8 (deny x) = utf8 x
texts_utf8 (forbid x) = utf8 x
texts_utf8 (cap_lints x) = true
texts_utf8 (codegen o v) = utf8 o && if_there utf8 v
texts_utf8 version = true
texts_utf8 verbose = true
texts_utf8 (extern n p) = utf8 n
texts_utf8 (extern_location n l) = utf8 n
texts_utf8 (sysroot x) = true
texts_utf8 (z x) = utf8 x
texts_utf8 (error_format x) = true
texts_utf8 (json x) = utf8 x
texts_utf8 (color x) = true
texts_utf8 (remap_path_prefix f t) = true

-- `=` is 61, `"` is 34, `:` is 58
abbrev pub fields_lack : Meaning → Bool
fields_lack help = true
fields_lack (cfg n v) = lacks 61 n && if_there (lacks 34) v
fields_lack (library_path k p) = true
fields_lack (link k ms n r) = lacks 58 n
fields_lack (crate_type x) = true
fields_lack (crate_name x) = true
fields_lack (edition x) = true
fields_lack (emit x) = true
fields_lack (print x) = true
fields_lack (out x) = true
fields_lack (out_dir x) = true
fields_lack (explain x) = true
fields_lack test = true
fields_lack (target x) = true
fields_lack (allow x) = true
fields_lack (warn x) = true
fields_lack (force_warn x) = true
fields_lack (deny x) = true
fields_lack (forbid x) = true
fields_lack (cap_lints x) = true
fields_lack (codegen o v) = lacks 61 o
fields_lack version = true
fields_lack verbose = true
fields_lack (extern n p) = lacks 61 n
fields_lack (extern_location n l) = lacks 61 n
fields_lack (sysroot x) = true
fields_lack (z x) = true
fields_lack (error_format x) = true
fields_lack (json x) = true
fields_lack (color x) = true
fields_lack (remap_path_prefix f t) = lacks 61 t

pub record Sound (m : Meaning) : Type 0 where
  pub texts : texts_utf8 m ≡ true
  pub bytes : fields_lack m ≡ true
