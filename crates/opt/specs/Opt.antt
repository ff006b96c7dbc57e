-- The flag that the argument of an option makes, as the rustc book has it, or none. A text is well-formed UTF-8, and a path is any bytes.
-- Assumes nothing.
use Rattle.std.specs.Prelude.{ℕ, ◌+◌, ◌-◌, ◌*◌, Bool, true, cond, ◌&&◌, List, [], ◌∷◌, map, length, drop, Some, None, Option, ◌==◌, nat_le}
use Rattle.std.specs.Borrow.{Bor}
use Rattle.std.specs.Option.{option_map, unwrap_or}
use Rattle.flags.specs.Meaning.{Bytes, Meaning, meaning, known_modifiers}
use Rattle.flags.specs.Meaning as flag
use Rattle.flags.specs.declared.flag.Flag.{Flag}
use Rattle.text.specs.Cuts.{Halves, cut_first, cut_last}
use Rattle.text.specs.Texts.{text_of}
use Rattle.utf8.specs.Utf8.{utf8}
use Rattle.words.specs.Lists.{known, first_known}
use Rattle.words.specs.Reading.{read}
use Rattle.words.specs.Spellings as word
use Rattle.words.specs.declared.link.LibraryKind.TheVariants.{All}
use Rattle.words.specs.declared.link.LinkKind.{LinkKind}
use Rattle.words.specs.declared.link.LinkKind.TheVariants.{Dylib}

-- `=`
abbrev pub equals : ℕ
equals = 61

-- `:`
abbrev pub colon : ℕ
colon = 58

-- `+`
abbrev pub plus : ℕ
plus = 43

-- `"`
abbrev pub quote : ℕ
quote = 34

-- what stands before the first b and, where there is one, what stands behind it
abbrev pub optional_part : ℕ → Bytes → Bytes × Option Bytes
optional_part b a = elim (cut_first b a) [ Some p ↦ (p.0, Some p.1) | None ↦ (a, None) ]

-- what a slice and perhaps another hold
abbrev pub parts : Bor Bytes × Option (Bor Bytes) → Bytes × Option Bytes
parts q = (q.0.now, option_map (λ s. s.now) q.1)

-- what stands behind a first byte b
abbrev pub behind_first : ℕ → Bytes → Option Bytes
behind_first b [] = None
behind_first b (x ∷ xs) = cond (x == b) (Some xs) None

-- One text.

abbrev pub crate_name_of : Bytes → Option Meaning
crate_name_of a = option_map flag.crate_name (text_of a)

abbrev pub print_of : Bytes → Option Meaning
print_of a = option_map flag.print (text_of a)

abbrev pub explain_of : Bytes → Option Meaning
explain_of a = option_map flag.explain (text_of a)

abbrev pub target_of : Bytes → Option Meaning
target_of a = option_map flag.target (text_of a)

abbrev pub allow_of : Bytes → Option Meaning
allow_of a = option_map flag.allow (text_of a)

abbrev pub warn_of : Bytes → Option Meaning
warn_of a = option_map flag.warn (text_of a)

abbrev pub force_warn_of : Bytes → Option Meaning
force_warn_of a = option_map flag.force_warn (text_of a)

abbrev pub deny_of : Bytes → Option Meaning
deny_of a = option_map flag.deny (text_of a)

abbrev pub forbid_of : Bytes → Option Meaning
forbid_of a = option_map flag.forbid (text_of a)

abbrev pub z_of : Bytes → Option Meaning
z_of a = option_map flag.z (text_of a)

abbrev pub json_of : Bytes → Option Meaning
json_of a = option_map flag.json (text_of a)

-- One path.

abbrev pub out_of : Bytes → Option Meaning
out_of a = Some (flag.out a)

abbrev pub out_dir_of : Bytes → Option Meaning
out_dir_of a = Some (flag.out_dir a)

abbrev pub sysroot_of : Bytes → Option Meaning
sysroot_of a = Some (flag.sysroot a)

-- One word.

abbrev pub cap_lints_of : Bytes → Option Meaning
cap_lints_of a = option_map flag.cap_lints (read word.lint_levels word.lint_level a)

abbrev pub error_format_of : Bytes → Option Meaning
error_format_of a = option_map flag.error_format (read word.error_formats word.error_format a)

abbrev pub color_of : Bytes → Option Meaning
color_of a = option_map flag.color (read word.colors word.color a)

-- Two parts.

-- a text: OPTION or OPTION=VALUE
abbrev pub codegen_of : Bytes → Option Meaning
codegen_of a = let q = optional_part equals a in cond (utf8 a) (Some (flag.codegen q.0 q.1)) None

-- NAME or NAME=PATH, the name a text
abbrev pub extern_of : Bytes → Option Meaning
extern_of a = let q = optional_part equals a in option_map (λ n. flag.extern n q.1) (text_of q.0)

-- NAME=LOCATION, the name a text
abbrev pub extern_location_of : Bytes → Option Meaning
extern_location_of a = elim (cut_first equals a) [ Some p ↦ option_map (λ n. flag.extern_location n p.1) (text_of p.0) | None ↦ None ]

-- FROM=TO, two paths: the last `=` parts them, so FROM may hold more of them
abbrev pub remap_path_prefix_of : Bytes → Option Meaning
remap_path_prefix_of a = option_map (λ p. flag.remap_path_prefix p.0 p.1) (cut_last equals a)

-- PATH or KIND=PATH
abbrev pub library_search_path_of : Bytes → Option Meaning
library_search_path_of a =
    elim (cut_first equals a) [
      | Some p ↦ option_map (λ k. flag.library_path k p.1) (read word.library_kinds word.library_kind p.0)
      | None ↦ Some (flag.library_path All a)
    ]

-- what stands before the second quote, which is the last byte
abbrev pub closed : Option Halves → Option Bytes
closed None = None
closed (Some p) = cond (length p.1 == 0) (Some p.0) None

-- what stands between two quotes with none between them
abbrev pub quoted : Bytes → Option Bytes
quoted a = elim (behind_first quote a) [ Some rest ↦ closed (cut_first quote rest) | None ↦ None ]

-- NAME or NAME="VALUE"
abbrev pub cfg_parts : Bytes × Option Bytes → Option Meaning
cfg_parts q = elim q.1 [ Some v ↦ option_map (λ inner. flag.cfg q.0 (Some inner)) (quoted v) | None ↦ Some (flag.cfg q.0 None) ]

abbrev pub cfg_of : Bytes → Option Meaning
cfg_of a = cond (utf8 a) (cfg_parts (optional_part equals a)) None

-- NAME or NAME:RENAME, with the kind and the list of modifiers that stand before it
abbrev pub linked : Bytes → LinkKind → Bytes → Meaning
linked a k list = let q = optional_part colon a in flag.link k (known_modifiers list) q.0 q.1

-- the list of modifiers, empty where there is none
abbrev pub listed : Option Bytes → Bytes
listed None = []
listed (Some list) = list

-- KIND or KIND:MODIFIERS
abbrev pub link_kind_of : Bytes → Option (LinkKind × Bytes)
link_kind_of a = let q = optional_part colon a in option_map (λ k. (k, listed q.1)) (read word.link_kinds word.link_kind q.0)

-- what a kind and a slice hold
abbrev pub held : LinkKind × Bor Bytes → LinkKind × Bytes
held k = (k.0, k.1.now)

abbrev pub link_parts : Bytes → Option Meaning
link_parts a =
    elim (cut_first equals a) [
      | Some p ↦ option_map (λ k. linked p.1 k.0 k.1) (link_kind_of p.0)
      | None ↦ Some (linked a Dylib [])
    ]

-- a text: NAME, KIND=NAME or KIND:MODIFIERS=NAME, and NAME may have :RENAME behind it
abbrev pub link_of : Bytes → Option Meaning
link_of a = cond (utf8 a) (link_parts a) None

-- A year: `+` or nothing, and then one or more digits, of a number of at most 65535.

abbrev pub unsigned : Bytes → Bytes
unsigned a = unwrap_or (behind_first plus a) a

abbrev pub is_digit : ℕ → Bool
is_digit b = nat_le 48 b && nat_le b 57

abbrev pub all_digits : Bytes → Bool
all_digits [] = true
all_digits (b ∷ bs) = is_digit b && all_digits bs

-- the number that digits write behind those of n
abbrev pub decimal : ℕ → Bytes → ℕ
decimal n [] = n
decimal n (b ∷ bs) = decimal (10 * n + (b - 48)) bs

abbrev pub number_from : ℕ → Bytes → Option ℕ
number_from n bs = cond (all_digits bs && nat_le (decimal n bs) 65535) (Some (decimal n bs)) None

abbrev pub year_of : Bytes → Option ℕ
year_of bs = cond (length bs == 0) None (number_from 0 bs)

abbrev pub edition_of : Bytes → Option Meaning
edition_of a = option_map flag.edition (year_of (unsigned a))

-- A list with commas: the first word that is known, and the place behind it and its comma.

abbrev pub crate_type_of : Bytes → Option (Meaning × ℕ)
crate_type_of a = option_map (λ p. (flag.crate_type p.0, p.1)) (first_known (read word.crate_types word.crate_type) a)

abbrev pub emit_of : Bytes → Option (Meaning × ℕ)
emit_of a = option_map (λ p. (flag.emit p.0, p.1)) (first_known (read word.emits word.emit) a)

-- all words that are known, in their order
abbrev pub crate_types_of : Bytes → List Meaning
crate_types_of a = map flag.crate_type (known (read word.crate_types word.crate_type) a)

abbrev pub emits_of : Bytes → List Meaning
emits_of a = map flag.emit (known (read word.emits word.emit) a)

-- what a flag and a place mean
abbrev pub placed : Flag × ℕ → Meaning × ℕ
placed p = (meaning p.0, p.1)

-- the first of a list, and then all that stand behind its place
abbrev pub onward : (Bytes → List Meaning) → Bytes → Option (Meaning × ℕ) → List Meaning
onward all a None = []
onward all a (Some p) = p.0 ∷ all (drop p.1 a)
