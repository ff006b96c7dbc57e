-- The flags that options make are sound: their texts are UTF-8, and their fields lack the bytes that would end them. Assumes nothing.
use Rattle.std.proofs.Common.{◌≡◌, ℕ, ◌<◌, Bool, true, false, cond, not, eqb, List, [], ◌∷◌, map, length, Some, None, codes, Option, sym, refl, ap, ◌∙◌, lit<}
use Rattle.std.specs.Option.{option_map, option_to_list}
use Rattle.std.specs.List.{AllByRecursion}
use Rattle.std.proofs.lemmas.Bool.{and_parts, and_from, eqb-true}
use Rattle.utf8.specs.Utf8.{utf8}
use Rattle.utf8.proofs.Laws.{utf8_cut}
use Rattle.text.specs.Cuts.{Halves, holds, cut_first, cut_last}
use Rattle.text.proofs.Cutting.{cut_first_whole, cut_first_front, cut_first_none, cut_last_back}
use Rattle.words.specs.Reading.{read}
use Rattle.words.specs.Spellings as word
use Rattle.words.specs.declared.link.LibraryKind.TheVariants.{All as every}
use Rattle.words.specs.declared.link.LinkKind.{LinkKind}
use Rattle.words.specs.declared.link.LinkKind.TheVariants.{Dylib}
use Rattle.flags.specs.Meaning.{Bytes, Meaning, cfg, library_path, crate_name, print, explain, target, allow, warn, force_warn, deny, forbid, codegen, extern_location, z, json, remap_path_prefix}
use Rattle.flags.specs.Sound.{if_there, lacks, Sound}
use Rattle.flags.specs.declared.kinds.Code.{Code}
use Rattle.flags.specs.declared.kinds.Code.TheVariants.{Of, Debuginfo, Optimize}
use Rattle.flags.specs.declared.kinds.Kind.TheVariants as kind
use Rattle.opt.specs.Opt as opt
use Rattle.text.specs.Texts.{text_of}
use Rattle.construct.specs.Made.{all_made}

-- what an option gives, if it gives anything
abbrev Good : Option Meaning → Type 0
Good None = Unit {0}
Good (Some m) = Sound m

good_list : (o : Option Meaning) → Good o → AllByRecursion Sound (option_to_list o)
good_list None g = tt
good_list (Some m) g = (g, tt)

good_mapped : {X : Type 0} (make : X → Meaning) → ((x : X) → Sound (make x)) → (o : Option X) → Good (option_map make o)
good_mapped make each None = tt
good_mapped make each (Some x) = each x

good_words : {X : Type 0} (make : X → Meaning) → ((x : X) → Sound (make x)) → (ws : List X) → AllByRecursion Sound (map make ws)
good_words make each [] = tt
good_words make each (w ∷ ws) = (each w, good_words make each ws)

-- where the bytes are a text
good_if : (a : Bytes) (o : Option Meaning) (t : Bool) → utf8 a ≡ t → (utf8 a ≡ true → Good o) → Good (cond t o None)
good_if a o true e good = good e
good_if a o false e good = tt

text_at : (make : Bytes → Meaning) (a : Bytes) (t : Bool) → utf8 a ≡ t → (utf8 a ≡ true → Sound (make a)) → Good (option_map make (cond t (Some a) None))
text_at make a true e good = good e
text_at make a false e good = tt

good_text : (make : Bytes → Meaning) (a : Bytes) → (utf8 a ≡ true → Sound (make a)) → Good (option_map make (text_of a))
good_text make a good = text_at make a (utf8 a) refl good

lacking : (b : ℕ) (bs : Bytes) → holds b bs ≡ false → lacks b bs ≡ true
lacking b bs e = ap not e

-- both sides of a cut at an ASCII byte
utf8_halves : (b : ℕ) → b < 128 → (bs : Bytes) (p : Halves) → cut_first b bs ≡ Some p → utf8 bs ≡ true → (utf8 p.0 ≡ true) × (utf8 p.1 ≡ true)
utf8_halves b ascii bs p cut u =
    and_parts _ _ (sym (utf8_cut p.0 b p.1 ascii) ∙ ap utf8 (sym (cut_first_whole b bs p cut)) ∙ u)

-- a part and perhaps a second one behind a byte
abbrev opt_by : Option Halves → Bytes → Bytes × Option Bytes
opt_by o a = elim o [ Some p ↦ (p.0, Some p.1) | None ↦ (a, None) ]

module _ (b : ℕ) (a : Bytes) where
  optional_lacks : (o : Option Halves) → cut_first b a ≡ o → lacks b (opt_by o a).0 ≡ true
  optional_lacks None e = lacking b a (cut_first_none b a e)
  optional_lacks (Some p) e = lacking b p.0 (cut_first_front b a p e)

  optional_utf8 : b < 128 → utf8 a ≡ true → (o : Option Halves) → cut_first b a ≡ o → (utf8 (opt_by o a).0 ≡ true) × (if_there utf8 (opt_by o a).1 ≡ true)
  optional_utf8 ascii u None e = (u, refl)
  optional_utf8 ascii u (Some p) e = utf8_halves b ascii a p e u

module _ (a : Bytes) where
  front : lacks 61 (opt.optional_part 61 a).0 ≡ true
  front = optional_lacks 61 a (cut_first 61 a) refl

  good_codegen : Good (opt.codegen_of a)
  good_codegen =
      good_if a _ (utf8 a) refl (λ u. let parts = optional_utf8 61 a (lit< tt) u (cut_first 61 a) refl in record { texts = and_from _ _ parts.0 parts.1; bytes = front })

  good_extern : Good (opt.extern_of a)
  good_extern = good_text _ (opt.optional_part 61 a).0 (λ u. record { texts = u; bytes = front })

  location_at : (o : Option Halves) → cut_first 61 a ≡ o → Good (elim o [ Some p ↦ option_map (λ n. extern_location n p.1) (text_of p.0) | None ↦ None ])
  location_at None e = tt
  location_at (Some p) e = good_text _ p.0 (λ u. record { texts = u; bytes = lacking 61 p.0 (cut_first_front 61 a p e) })

  remap_at : (o : Option Halves) → cut_last 61 a ≡ o → Good (option_map (λ p. remap_path_prefix p.0 p.1) o)
  remap_at None e = tt
  remap_at (Some p) e = record { texts = refl; bytes = lacking 61 p.1 (cut_last_back 61 a p e) }

  path_at : (o : Option Halves) → Good (elim o [ Some p ↦ option_map (λ k. library_path k p.1) (read word.library_kinds word.library_kind p.0) | None ↦ Some (library_path every a) ])
  path_at None = record { texts = refl; bytes = refl }
  path_at (Some p) = good_mapped _ (λ k. record { texts = refl; bytes = refl }) _

-- a value in quotes
closed_told : (xs inner : Bytes) (o : Option Halves) → cut_first 34 xs ≡ o → utf8 xs ≡ true → opt.closed o ≡ Some inner → (utf8 inner ≡ true) × (lacks 34 inner ≡ true)
closed_told xs inner None e u c = absurd cc
closed_told xs inner (Some p) e u c = at (eqb (length p.1) 0) c
  where
    at : (t : Bool) → cond t (Some p.0) None ≡ Some inner → (utf8 inner ≡ true) × (lacks 34 inner ≡ true)
    at true c = let f : p.0 ≡ inner = cc in (ap utf8 (sym f) ∙ (utf8_halves 34 (lit< tt) xs p e u).0, ap (lacks 34) (sym f) ∙ lacking 34 p.0 (cut_first_front 34 xs p e))
    at false c = absurd cc

quoted_told : (v inner : Bytes) → utf8 v ≡ true → opt.quoted v ≡ Some inner → (utf8 inner ≡ true) × (lacks 34 inner ≡ true)
quoted_told [] inner u q = absurd cc
quoted_told (x ∷ xs) inner u q = at (eqb x 34) (eqb-true x 34) q
  where
    at : (t : Bool) → (t ≡ true → x ≡ 34) → ◌≡◌ {A = Option Bytes} (elim (cond t (Some xs) None) [ Some rest ↦ opt.closed (cut_first 34 rest) | None ↦ None ]) (Some inner) → (utf8 inner ≡ true) × (lacks 34 inner ≡ true)
    at true is c = closed_told xs inner (cut_first 34 xs) refl (and_parts (utf8 []) (utf8 xs) (sym (utf8_cut [] 34 xs (lit< tt)) ∙ ap (λ y. utf8 (y ∷ xs)) (sym (is refl)) ∙ u)).1 c
    at false is c = absurd cc

good_value : (name v : Bytes) (o : Option Bytes) → opt.quoted v ≡ o → utf8 name ≡ true → lacks 61 name ≡ true → utf8 v ≡ true → Good (option_map (λ inner. cfg name (Some inner)) o)
good_value name v None e n l u = tt
good_value name v (Some inner) e n l u = let told = quoted_told v inner u e in record { texts = and_from _ _ n told.0; bytes = and_from _ _ l told.1 }

good_cfg_parts : (name : Bytes) (o : Option Bytes) → utf8 name ≡ true → if_there utf8 o ≡ true → lacks 61 name ≡ true → Good (opt.cfg_parts (name, o))
good_cfg_parts name None n u l = record { texts = and_from _ _ n refl; bytes = and_from _ _ l refl }
good_cfg_parts name (Some v) n u l = good_value name v (opt.quoted v) refl n l u

good_cfg : (a : Bytes) → Good (opt.cfg_of a)
good_cfg a =
    good_if a _ (utf8 a) refl (λ u. let parts = optional_utf8 61 a (lit< tt) u (cut_first 61 a) refl in good_cfg_parts (opt.optional_part 61 a).0 (opt.optional_part 61 a).1 parts.0 parts.1 (front a))

sound_linked : (a : Bytes) (k : LinkKind) (list : Bytes) → utf8 a ≡ true → Sound (opt.linked a k list)
sound_linked a k list u =
    let parts = optional_utf8 58 a (lit< tt) u (cut_first 58 a) refl in
    record { texts = and_from _ _ parts.0 parts.1; bytes = optional_lacks 58 a (cut_first 58 a) refl }

link_at : (a : Bytes) (o : Option Halves) → cut_first 61 a ≡ o → utf8 a ≡ true → Good (elim o [ Some p ↦ option_map (λ k. opt.linked p.1 k.0 k.1) (opt.link_kind_of p.0) | None ↦ Some (opt.linked a Dylib []) ])
link_at a None e u = sound_linked a Dylib [] u
link_at a (Some p) e u = good_mapped _ (λ k. sound_linked p.1 k.0 k.1 (utf8_halves 61 (lit< tt) a p e u).1) _

-- `-g` and `-O`
sound_debuginfo : Sound (codegen (codes "debuginfo") (Some (codes "2")))
unfolding utf8
sound_debuginfo = record { texts = refl; bytes = refl }

sound_optimize : Sound (codegen (codes "opt-level") (Some (codes "2")))
unfolding utf8
sound_optimize = record { texts = refl; bytes = refl }

pub sound_made : (c : Code) (a : Bytes) → AllByRecursion Sound (all_made c a)
sound_made (Of kind.Help) a = (record { texts = refl; bytes = refl }, tt)
sound_made (Of kind.Cfg) a = good_list _ (good_cfg a)
sound_made (Of kind.LibrarySearchPath) a = good_list _ (path_at a (cut_first 61 a))
sound_made (Of kind.Link) a = good_list _ (good_if a _ (utf8 a) refl (link_at a (cut_first 61 a) refl))
sound_made (Of kind.CrateType) a = good_words _ (λ w. record { texts = refl; bytes = refl }) _
sound_made (Of kind.CrateName) a = good_list _ (good_text crate_name a (λ u. record { texts = u; bytes = refl }))
sound_made (Of kind.Edition) a = good_list _ (good_mapped _ (λ w. record { texts = refl; bytes = refl }) _)
sound_made (Of kind.Emit) a = good_words _ (λ w. record { texts = refl; bytes = refl }) _
sound_made (Of kind.Print) a = good_list _ (good_text print a (λ u. record { texts = u; bytes = refl }))
sound_made (Of kind.Out) a = (record { texts = refl; bytes = refl }, tt)
sound_made (Of kind.OutDir) a = (record { texts = refl; bytes = refl }, tt)
sound_made (Of kind.Explain) a = good_list _ (good_text explain a (λ u. record { texts = u; bytes = refl }))
sound_made (Of kind.Test) a = (record { texts = refl; bytes = refl }, tt)
sound_made (Of kind.Target) a = good_list _ (good_text target a (λ u. record { texts = u; bytes = refl }))
sound_made (Of kind.Allow) a = good_list _ (good_text allow a (λ u. record { texts = u; bytes = refl }))
sound_made (Of kind.Warn) a = good_list _ (good_text warn a (λ u. record { texts = u; bytes = refl }))
sound_made (Of kind.ForceWarn) a = good_list _ (good_text force_warn a (λ u. record { texts = u; bytes = refl }))
sound_made (Of kind.Deny) a = good_list _ (good_text deny a (λ u. record { texts = u; bytes = refl }))
sound_made (Of kind.Forbid) a = good_list _ (good_text forbid a (λ u. record { texts = u; bytes = refl }))
sound_made (Of kind.CapLints) a = good_list _ (good_mapped _ (λ w. record { texts = refl; bytes = refl }) _)
sound_made (Of kind.Codegen) a = good_list _ (good_codegen a)
sound_made (Of kind.Version) a = (record { texts = refl; bytes = refl }, tt)
sound_made (Of kind.Verbose) a = (record { texts = refl; bytes = refl }, tt)
sound_made (Of kind.Extern) a = good_list _ (good_extern a)
sound_made (Of kind.ExternLocation) a = good_list _ (location_at a (cut_first 61 a) refl)
sound_made (Of kind.Sysroot) a = (record { texts = refl; bytes = refl }, tt)
sound_made (Of kind.Z) a = good_list _ (good_text z a (λ u. record { texts = u; bytes = refl }))
sound_made (Of kind.ErrorFormat) a = good_list _ (good_mapped _ (λ w. record { texts = refl; bytes = refl }) _)
sound_made (Of kind.Json) a = good_list _ (good_text json a (λ u. record { texts = u; bytes = refl }))
sound_made (Of kind.Color) a = good_list _ (good_mapped _ (λ w. record { texts = refl; bytes = refl }) _)
sound_made (Of kind.RemapPathPrefix) a = good_list _ (remap_at a (cut_last 61 a) refl)
sound_made Debuginfo a = (sound_debuginfo, tt)
sound_made Optimize a = (sound_optimize, tt)
