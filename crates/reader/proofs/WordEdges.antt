-- What an option reads of its argument for the first flag ends at an edge. Assumes nothing.
use Rattle.std.proofs.Common.{◌≡◌, ℕ, zero, suc, ◌+◌, ◌<◌, ◌≤◌, Bool, true, false, cond, [], length, Some, None, Option, IfSome, sym, refl, subst, ⊎_elim, lit<, arith}
use Rattle.std.specs.Option.{option_map}
use Rattle.std.proofs.lemmas.Bool.{cases_lt}
use Rattle.construct.specs.Made.{first_made, single, used_up}
use Rattle.construct.proofs.Listed.{is_emit, first_listed, first_by_takes}
use Rattle.flags.specs.Codes.{about}
use Rattle.flags.specs.Meaning.{Bytes, Meaning, crate_type, emit}
use Rattle.flags.specs.declared.kinds.Code.{Code}
use Rattle.flags.specs.declared.kinds.Takes.{Takes}
use Rattle.flags.specs.declared.kinds.Takes.TheVariants.{Nothing, List as list, One}
use Rattle.opt.specs.Opt.{emit_of, crate_type_of}
use Rattle.text.specs.Arguments.{piece_at, place_behind}
use Rattle.text.specs.Edges.{Edge, end}
use Rattle.text.proofs.Walking.{cut_at_edges}
use Rattle.words.specs.Lists.{comma, Reads, first_known, first_from, Part}
use Rattle.words.specs.Reading.{read}
use Rattle.words.specs.Spellings as word
use Rattle.words.proofs.Parted.{ended, part_there}

-- a word of a list is read up to an edge: a comma is behind it, or the end
module _ {W : Type 0} (reads : Reads W) (nothing : reads [] ≡ None) (bytes : Bytes) where
  abbrev UpToEdge : Option (W × ℕ) → Type 0
  UpToEdge o = IfSome o (λ p. Edge bytes p.1)

  abbrev From : ℕ → Type 0
  From at = UpToEdge (first_from reads bytes at)

  word_past : (at : ℕ) → length bytes ≤ at → From at
  word_past at past = subst UpToEdge (sym (ended reads nothing bytes at past).first) tt

  module _ (at : ℕ) (in' : at < length bytes) where
    abbrev word_here : Part reads bytes at (piece_at comma bytes at) (place_behind comma bytes at)
    word_here = part_there reads nothing bytes at in'

    word_by : From (place_behind comma bytes at) → (o : Option W) → reads (piece_at comma bytes at) ≡ o → From at
    word_by later (Some w) e = subst UpToEdge (sym (word_here.first_here w e)) (cut_at_edges comma bytes at (lit< tt)).behind
    word_by later None e = subst UpToEdge (sym (word_here.first_later e)) later

  words_from : (n at : ℕ) → length bytes ≤ at + n → From at
  words_from zero at h = word_past at (omega arith)
  words_from (suc n) at h = ⊎_elim
      (λ in'. word_by at in' (words_from n (place_behind comma bytes at) (omega (arith, (word_here at in').onward))) _ refl)
      (word_past at)
      (cases_lt at (length bytes))

  word_up_to_edge : UpToEdge (first_known reads bytes)
  word_up_to_edge = words_from (length bytes) 0 (omega arith)

-- so is what an option makes its first flag of
module _ (c : Code) (bytes : Bytes) where
  abbrev pub MadeUpToEdge : Option (Meaning × ℕ) → Type 0
  MadeUpToEdge o = IfSome o (λ p. Edge bytes p.1)

  whole_up_to_edge : (o : Option Meaning) → MadeUpToEdge (used_up bytes o)
  whole_up_to_edge None = tt
  whole_up_to_edge (Some m) = end refl

  module _ {W : Type 0} (flag : W → Meaning) where
    placed_up_to_edge : (o : Option (W × ℕ)) → IfSome o (λ p. Edge bytes p.1) → MadeUpToEdge (option_map (λ p. (flag p.0, p.1)) o)
    placed_up_to_edge None e = tt
    placed_up_to_edge (Some p) e = e

  listed_up_to_edge : MadeUpToEdge (first_listed c bytes)
  listed_up_to_edge = by (is_emit c)
    where
      by : (t : Bool) → MadeUpToEdge (cond t emit_of crate_type_of bytes)
      by true = placed_up_to_edge emit _ (word_up_to_edge (read word.emits word.emit) refl bytes)
      by false = placed_up_to_edge crate_type _ (word_up_to_edge (read word.crate_types word.crate_type) refl bytes)

  pub made_up_to_edge : MadeUpToEdge (first_made c bytes)
  made_up_to_edge = subst MadeUpToEdge (sym (first_by_takes c bytes)) (by (about c).takes)
    where
      whole : Option (Meaning × ℕ)
      whole = used_up bytes (single c bytes)

      by : (t : Takes) → MadeUpToEdge (elim t [ Nothing ↦ whole | list ↦ first_listed c bytes | One ↦ whole ])
      by Nothing = whole_up_to_edge (single c bytes)
      by list = listed_up_to_edge
      by One = whole_up_to_edge (single c bytes)
