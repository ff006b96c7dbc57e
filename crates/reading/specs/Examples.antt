-- Texts, and the flags that they give under the options of rustc. Assumes nothing.
use Rattle.std.specs.Prelude.{◌≡◌, ℕ, List, [], ◌∷◌, Some, None, codes, Option}
use Rattle.std.specs.List.{slice_get, AllByRecursion}
use Rattle.std.specs.Option.{option_map}
use Rattle.flags.specs.Meaning.{Bytes, Meaning, help, version, verbose, allow, out, codegen, cfg, emit, remap_path_prefix, link, edition}
use Rattle.words.specs.declared.link.LinkKind.TheVariants.{Dylib}
use Rattle.tables.specs.Rustc.{rustc}
use Rattle.text.specs.Arguments.{join, arguments}
use Rattle.words.specs.declared.output.Emit.TheVariants.{Link, Asm}
use Rattle.reading.specs.Reading.{reading}

pub record Example : Type 0 where
  pub text : Bytes
  pub flags : List Meaning

abbrev pub gives : Bytes → List Meaning → Example
gives t fs = record { text = t; flags = fs }

-- where there is more than one argument, `join` writes the separator between each two
abbrev pub examples : List Example
examples =
    gives (codes "-hV") (help ∷ version ∷ [])
    ∷ gives (codes "-A") []
    ∷ gives (codes "--allow") (allow [] ∷ [])
    ∷ gives (join (codes "-o" ∷ [] ∷ [])) (out [] ∷ [])
    ∷ gives (join (codes "-o" ∷ [] ∷ codes "-h" ∷ [])) (out [] ∷ help ∷ [])
    ∷ gives (join (codes "--help=x" ∷ codes "-v" ∷ [])) (verbose ∷ [])
    ∷ gives (join (codes "--" ∷ codes "-h" ∷ [])) []
    ∷ gives (codes "-Cb=c=d") (codegen (codes "b") (Some (codes "c=d")) ∷ [])
    ∷ gives (codes "--cfg=a=\"\"") (cfg (codes "a") (Some []) ∷ [])
    ∷ gives (codes "--cfg=a=\"b") []
    ∷ gives (join (codes "--emit=zz,link,,asm" ∷ codes "-h" ∷ [])) (emit Link ∷ emit Asm ∷ help ∷ [])
    ∷ gives (codes "--remap-path-prefix=a=b=c") (remap_path_prefix (codes "a=b") (codes "c") ∷ [])
    ∷ gives (join (codes "-L" ∷ codes "x=y" ∷ [])) []
    ∷ gives (codes "-ldylib=a=b") (link Dylib [] (codes "a=b") None ∷ [])
    ∷ gives (codes "--edition=+02021") (edition 2021 ∷ [])
    ∷ gives (codes "--edition=65535") (edition 65535 ∷ [])
    ∷ gives (codes "--edition=65536") []
    ∷ []

-- the text at a place
abbrev pub text_at : ℕ → Option Bytes
text_at place = option_map (λ e. e.text) (slice_get examples place)

abbrev pub ReadsSo : Example → Type 0
ReadsSo e = reading rustc (arguments e.text) ≡ e.flags

-- each text gives its flags
pub record AllRead : Type 0 where
  pub each : AllByRecursion ReadsSo examples
