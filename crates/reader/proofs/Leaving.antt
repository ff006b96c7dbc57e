-- What is left of a text, place by place. Assumes nothing.
use Rattle.std.proofs.Common.{◌≡◌, ℕ, ◌+◌, List, [], ◌∷◌, ◌++◌, length, drop, Some, None, Option, sym, refl, ap, ◌∙◌, le_refl, arith, length-drop}
use Rattle.std.specs.Option.{option_map}
use Rattle.std.proofs.lemmas.List.{drop_all, drop-drop, drop_at}
use Rattle.std.proofs.lemmas.Bool.{cond-true, cond-false, eq-eqb, ne_eqb}
use Rattle.flags.specs.Meaning.{Bytes}
use Rattle.text.specs.Arguments.{pieces, piece_at, place_behind}
use Rattle.text.specs.Cuts.{Halves, with_front, cut_first}
use Rattle.text.proofs.Cutting.{cut_first_whole}
use Rattle.text.proofs.Walking.{piece_by, place_by, pieces_split, pieces_uncut, behind_cut}
use Rattle.tables.specs.Tables.{Options}
use Rattle.reading.specs.Reading.{free, ended}
use Rattle.reading.specs.Left.{between, behind, first, first_from}
use Rattle.reader.specs.Cursors.{args_behind}

-- the pieces behind the first, by the cut of what is left
abbrev args_by : Option Halves → List Bytes
args_by o = elim o [ Some p ↦ pieces 31 p.1 | None ↦ [] ]

pieces_by : (rest : Bytes) (o : Option Halves) → cut_first 31 rest ≡ o → pieces 31 rest ≡ piece_by o rest ∷ args_by o
pieces_by rest None e = pieces_uncut 31 rest e
pieces_by rest (Some p) e = pieces_split 31 rest p e

some_pieces : (bs : Bytes) → behind (pieces 31 bs) ≡ pieces 31 bs
some_pieces bs = ap behind (pieces_by bs (cut_first 31 bs) refl) ∙ sym (pieces_by bs (cut_first 31 bs) refl)

module _ (text : Bytes) (at : ℕ) where
  pub pieces_here : pieces 31 (drop at text) ≡ piece_at 31 text at ∷ args_behind text at
  pieces_here = pieces_by (drop at text) (cut_first 31 (drop at text)) refl

  -- where a separator stands behind the piece
  module _ (p : Halves) (cut : cut_first 31 (drop at text) ≡ Some p) where
    split : drop at text ≡ p.0 ++ 31 ∷ p.1
    split = cut_first_whole 31 (drop at text) p cut

    at_end : drop (at + length p.0) text ≡ 31 ∷ p.1
    at_end = sym (drop-drop (length p.0) at text) ∙ ap (drop (length p.0)) split ∙ drop_at p.0 (31 ∷ p.1) _ refl

  later_by : (o : Option Halves) → cut_first 31 (drop at text) ≡ o → pieces 31 (drop (place_by o at (length text)) text) ≡ behind (args_by o)
  later_by None e = ap (pieces 31) (drop_all (length text) text (le_refl _))
  later_by (Some p) e = ap (pieces 31) (behind_cut 31 text at p e) ∙ sym (some_pieces p.1)

  pub pieces_later : pieces 31 (drop (place_behind 31 text at) text) ≡ behind (args_behind text at)
  pieces_later = later_by (cut_first 31 (drop at text)) refl

  end_by : (o : Option Halves) → cut_first 31 (drop at text) ≡ o → pieces 31 (drop (at + length (piece_by o (drop at text))) text) ≡ [] ∷ args_by o
  end_by None e = ap (pieces 31) (drop_all (at + length (drop at text)) text (omega (arith, length-drop at text)))
  end_by (Some p) e = ap (pieces 31) (at_end p e)

  pub pieces-at_end : pieces 31 (drop (at + length (piece_at 31 text at)) text) ≡ [] ∷ args_behind text at
  pieces-at_end = end_by (cut_first 31 (drop at text)) refl

  module _ (x : ℕ) (here : drop at text ≡ x ∷ drop (at + 1) text) where
    -- a byte of a piece
    module _ (other : x ≡ 31 → ⊥) where
      cut_on : cut_first 31 (drop at text) ≡ option_map (with_front x) (cut_first 31 (drop (at + 1) text))
      cut_on = ap (cut_first 31) here ∙ cond-false _ _ _ (ne_eqb x 31 other)

      piece_on_by : (o : Option Halves) → piece_by (option_map (with_front x) o) (x ∷ drop (at + 1) text) ≡ x ∷ piece_by o (drop (at + 1) text)
      piece_on_by None = refl
      piece_on_by (Some p) = refl

      pub piece_on : piece_at 31 text at ≡ x ∷ piece_at 31 text (at + 1)
      piece_on = ap (λ o. piece_by o (drop at text)) cut_on ∙ ap (piece_by (option_map (with_front x) (cut_first 31 (drop (at + 1) text)))) here ∙ piece_on_by (cut_first 31 (drop (at + 1) text))

      args_on_by : (o : Option Halves) → args_by (option_map (with_front x) o) ≡ args_by o
      args_on_by None = refl
      args_on_by (Some p) = refl

      pub args_on : args_behind text at ≡ args_behind text (at + 1)
      args_on = ap args_by cut_on ∙ args_on_by (cut_first 31 (drop (at + 1) text))

    -- a separator
    module _ (is : x ≡ 31) where
      cut_here : cut_first 31 (drop at text) ≡ Some ([], drop (at + 1) text)
      cut_here = ap (cut_first 31) here ∙ cond-true _ _ _ (eq-eqb x 31 is)

      pub no_piece : piece_at 31 text at ≡ []
      no_piece = ap (λ o. piece_by o (drop at text)) cut_here

      pub args_here : args_behind text at ≡ pieces 31 (drop (at + 1) text)
      args_here = ap args_by cut_here

  module _ (past : drop at text ≡ []) where
    pub piece_past : piece_at 31 text at ≡ []
    piece_past = ap (λ l. piece_by (cut_first 31 l) l) past

    pub args_past : args_behind text at ≡ []
    args_past = ap (λ l. args_by (cut_first 31 l)) past

module _ (o : Options) where
  pub first_behind : (args : List Bytes) → first o (between (behind args)) ≡ first_from o free args
  first_behind [] = refl
  first_behind (a ∷ args) = refl

  pub first_ended : (args : List Bytes) → first_from o ended args ≡ None
  first_ended [] = refl
  first_ended (a ∷ args) = refl
