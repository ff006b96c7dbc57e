-- The piece at a place, from the cut of what is left there. Assumes nothing.
use Rattle.std.proofs.Common.{◌≡◌, ℕ, ◌+◌, ◌<◌, ◌≤◌, List, [], ◌∷◌, ◌++◌, length, get_or, drop, Some, None, Option, sym, refl, ap, ◌∙◌, subst, arith, length-append, length-drop}
use Rattle.std.proofs.lemmas.List.{get_or-drop, get_or_at, drop-drop, drop_at}
use Rattle.text.specs.Arguments.{separator, pieces, arguments, piece_at, place_behind, CutAtEdges, ArgumentAtEdges, ArgumentsAtEdges}
use Rattle.text.specs.Cuts.{Halves, cut_first}
use Rattle.text.specs.Edges.{Edge, start, end}
use Rattle.text.proofs.Cutting.{cut_first_whole, cut_first_front, cut_first_none}
use Rattle.text.proofs.Edging.{edge_before, edge_behind}
use Rattle.text.proofs.Joining.{pieces_one, pieces_cut}

abbrev pub piece_by : Option Halves → List ℕ → List ℕ
piece_by o rest = elim o [ Some p ↦ p.0 | None ↦ rest ]

abbrev pub place_by : Option Halves → ℕ → ℕ → ℕ
place_by o at n = elim o [ Some p ↦ at + length p.0 + 1 | None ↦ n ]

-- the pieces of a text: up to the first b and behind it, or the whole
module _ (b : ℕ) (bs : List ℕ) where
  pub pieces_split : (h : Halves) → cut_first b bs ≡ Some h → pieces b bs ≡ h.0 ∷ pieces b h.1
  pieces_split h cut = ap (pieces b) (cut_first_whole b bs h cut) ∙ pieces_cut b h.0 h.1 (cut_first_front b bs h cut)

  pub pieces_uncut : cut_first b bs ≡ None → pieces b bs ≡ bs ∷ []
  pieces_uncut cut = pieces_one b bs (cut_first_none b bs cut)

module _ (b : ℕ) (bs : List ℕ) (at : ℕ) where
  module _ (h : Halves) (cut : cut_first b (drop at bs) ≡ Some h) where
    piece_there : h.0 ≡ piece_at b bs at
    piece_there = sym (ap (λ o. piece_by o (drop at bs)) cut)

    place_there : at + length h.0 + 1 ≡ place_behind b bs at
    place_there = sym (ap (λ o. place_by o at (length bs)) cut)

    split : drop at bs ≡ h.0 ++ b ∷ h.1
    split = cut_first_whole b (drop at bs) h cut

    -- what is left behind the byte
    pub behind_cut : drop (at + length h.0 + 1) bs ≡ h.1
    behind_cut = sym (drop-drop 1 (at + length h.0) bs) ∙ ap (drop 1) (sym (drop-drop (length h.0) at bs) ∙ ap (drop (length h.0)) split ∙ drop_at h.0 (b ∷ h.1) _ refl)

    byte_there : get_or bs (at + length h.0) 0 ≡ b
    byte_there = sym (get_or-drop at bs (length h.0) 0) ∙ ap (λ l. get_or l (length h.0) 0) split ∙ get_or_at h.0 b h.1 0 _ refl

    byte_within : at + length h.0 < length bs
    byte_within = omega (arith, length-drop at bs, simp length-append at (ap length split))

    place_within : place_behind b bs at ≤ length bs
    place_within = omega (arith, byte_within, place_there)

    edges_there : b < 128 → CutAtEdges b bs at
    edges_there ascii = record {
      before = λ _. subst (λ a. Edge bs (at + length a)) piece_there (edge_before bs _ b byte_within byte_there ascii);
      behind = subst (Edge bs) place_there (edge_behind bs _ b byte_within byte_there ascii);
    }

    rest_there : h.1 ≡ drop (place_behind b bs at) bs
    rest_there = sym behind_cut ∙ ap (λ n. drop n bs) place_there

    pub pieces_more : pieces b (drop at bs) ≡ piece_at b bs at ∷ pieces b (drop (place_behind b bs at) bs)
    pieces_more = pieces_split b (drop at bs) h cut ∙ (λ i. piece_there i ∷ pieces b (rest_there i))

  module _ (cut : cut_first b (drop at bs) ≡ None) where
    piece_last : drop at bs ≡ piece_at b bs at
    piece_last = sym (ap (λ o. piece_by o (drop at bs)) cut)

    place_last : length bs ≡ place_behind b bs at
    place_last = sym (ap (λ o. place_by o at (length bs)) cut)

    edges_last : CutAtEdges b bs at
    edges_last = record {
      before = λ within. end (omega (arith, length-drop at bs, ap length piece_last));
      behind = end (sym place_last);
    }

    pub pieces_last : pieces b (drop at bs) ≡ piece_at b bs at ∷ []
    pieces_last = pieces_uncut b (drop at bs) cut ∙ ap (λ p. p ∷ []) piece_last

  piece_within : at ≤ length bs → at + length (piece_at b bs at) ≤ length bs
  piece_within in' = by_cut (cut_first b (drop at bs)) refl
    where
      by_cut : (o : Option Halves) → cut_first b (drop at bs) ≡ o → at + length (piece_at b bs at) ≤ length bs
      by_cut None e = omega (arith, length-drop at bs, ap length (piece_last e))
      by_cut (Some h) e = omega (arith, byte_within h e, ap length (piece_there h e))

  pub cut_at_edges : b < 128 → CutAtEdges b bs at
  cut_at_edges ascii = by_cut (cut_first b (drop at bs)) refl
    where
      by_cut : (o : Option Halves) → cut_first b (drop at bs) ≡ o → CutAtEdges b bs at
      by_cut None e = edges_last e
      by_cut (Some h) e = edges_there h e ascii

-- the arguments of a text, each at its place and between edges
module _ (text : List ℕ) where
  argument_there : (at : ℕ) → at ≤ length text → Edge text at → ArgumentAtEdges text at (piece_at separator text at)
  argument_there at within front =
      let cuts : CutAtEdges separator text at = cut_at_edges separator text at (omega arith) in
      record { here = refl; within = piece_within separator text at within; front = front; back = cuts.before within; cuts = cuts }

  -- a list of pieces that are left at a place
  abbrev LeftAt : List (List ℕ) → ℕ → Type 0
  LeftAt list at = at ≤ length text → Edge text at → pieces separator (drop at text) ≡ list → ArgumentsAtEdges text at list

  one_more : (p : List ℕ) (ps : List (List ℕ)) (at : ℕ) → ((behind : ℕ) → LeftAt ps behind) → LeftAt (p ∷ ps) at
  one_more p ps at others within front e = by_cut (cut_first separator (drop at text)) refl
    where
      by_cut : (o : Option Halves) → cut_first separator (drop at text) ≡ o → ArgumentsAtEdges text at (p ∷ ps)
      by_cut None cut =
          let same : piece_at separator text at ∷ [] ≡ p ∷ ps = sym (pieces_last separator text at cut) ∙ e in
          subst (ArgumentsAtEdges text at) same (argument_there at within front, tt)
      by_cut (Some h) cut =
          let behind = place_behind separator text at in
          let same : piece_at separator text at ∷ pieces separator (drop behind text) ≡ p ∷ ps = sym (pieces_more separator text at h cut) ∙ e in
          let edge : Edge text behind = (cut_at_edges separator text at (omega arith)).behind in
          let here : piece_at separator text at ≡ p = cc in
          (subst (ArgumentAtEdges text at) here (argument_there at within front), others behind (place_within separator text at h cut) edge cc)

  arguments_from : (list : List (List ℕ)) (at : ℕ) → LeftAt list at
  arguments_from [] at within front e = tt
  arguments_from (p ∷ ps) at within front e = one_more p ps at (arguments_from ps) within front e

pub arguments_at_edges : (text : List ℕ) → ArgumentsAtEdges text 0 (arguments text)
arguments_at_edges [] = tt
arguments_at_edges (x ∷ xs) = arguments_from (x ∷ xs) (pieces separator (x ∷ xs)) 0 (omega arith) (start refl) refl
