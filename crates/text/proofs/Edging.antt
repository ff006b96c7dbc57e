-- A cut beside an ASCII byte is at edges. Assumes nothing.
use Rattle.std.proofs.Common.{◌≡◌, ℕ, zero, suc, true, eqb, ◌+◌, ◌-◌, ◌<◌, List, [], ◌∷◌, ◌++◌, length, get_or, take, drop, Some, None, Option, IfSome, sym, ap, ◌∙◌, subst, arith, length-drop}
use Rattle.std.specs.Option.{option_map}
use Rattle.std.proofs.lemmas.Bool.{eq-eqb, or_left, or_right}
use Rattle.std.proofs.lemmas.List.{drop_more, take_more, length-take-le}
use Rattle.utf8.proofs.Laws.{ascii_character}
use Rattle.text.specs.Edges.{Edge, AtEdges, before, after}
use Rattle.text.specs.Cuts.{holds, sides, cut_first, cut_last}
use Rattle.text.proofs.Cutting.{Holds, cut_first_sides, cut_last_sides, first_held, last_held}

-- what stands at a place is held
pub holds_here : (b : ℕ) (bs : List ℕ) (i : ℕ) → i < length bs → get_or bs i 0 ≡ b → true ≡ holds b bs
holds_here b [] i in' e = absurd (omega arith)
holds_here b (x ∷ xs) zero in' e = sym (or_left _ _ (eq-eqb x b e))
holds_here b (x ∷ xs) (suc i) in' e = sym (or_right (eqb x b) _ (sym (holds_here b xs i (omega arith) e)))

module _ (bs : List ℕ) (i b : ℕ) (in' : i < length bs) (here : get_or bs i 0 ≡ b) (ascii : b < 128) where
  pub edge_before : Edge bs i
  edge_before = before (b ∷ []) (drop (i + 1) bs) (ascii_character b ascii) (drop_more bs i 0 in' ∙ ap (λ x. x ∷ drop (i + 1) bs) here)

  pub edge_behind : Edge bs (i + 1)
  edge_behind = after (take i bs) (b ∷ []) (ascii_character b ascii) (take_more bs i 0 in' ∙ ap (λ x. take i bs ++ x ∷ []) here)

  pub cut_at_edges : AtEdges bs (Some (sides bs i))
  cut_at_edges =
      let front : length (take i bs) ≡ i = length-take-le i bs (omega arith) in
      let back : length bs - length (drop (suc i) bs) ≡ i + 1 = omega (arith, length-drop (suc i) bs) in
      (subst (Edge bs) (sym front) edge_before, subst (Edge bs) (sym back) edge_behind)

-- a cut at a place of the byte
module _ (b : ℕ) (bs : List ℕ) where
  edges_at : (place : Option ℕ) → IfSome place (Holds b bs) → b < 128 → AtEdges bs (option_map (sides bs) place)
  edges_at None held ascii = tt
  edges_at (Some i) held ascii = cut_at_edges bs i b held.0 held.1 ascii

  pub first_edges : b < 128 → AtEdges bs (cut_first b bs)
  first_edges ascii = rw (cut_first_sides b bs) (edges_at _ (first_held b bs) ascii)

  pub last_edges : b < 128 → AtEdges bs (cut_last b bs)
  last_edges ascii = rw (cut_last_sides b bs) (edges_at _ (last_held b bs) ascii)
