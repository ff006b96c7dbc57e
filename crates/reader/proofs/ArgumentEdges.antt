-- Arguments that are cut at edges of a text. Assumes nothing.
use Rattle.std.proofs.Common.{◌≡◌, ℕ, ◌+◌, ◌-◌, ◌<◌, ◌≤◌, ◌++◌, length, get_or, take, drop, Some, sym, refl, ap, ◌∙◌, subst, lit<, arith, length-append, length-drop}
use Rattle.std.proofs.lemmas.List.{append_assoc, drop-append-le, drop-drop, drop_more, length-take-le, take-append-drop, take-append-le}
use Rattle.std.proofs.Math.Seq.{take-add}
use Rattle.construct.specs.Made.{first_made}
use Rattle.flags.specs.Meaning.{Bytes, Meaning}
use Rattle.flags.specs.declared.kinds.Code.{Code}
use Rattle.text.specs.Arguments.{piece_at, place_behind}
use Rattle.text.specs.Edges.{Edge, start, end, before, after}
use Rattle.text.proofs.Edging.{edge_behind}
use Rattle.text.proofs.Walking.{cut_at_edges}
use Rattle.reader.specs.Cursors.{AtEdge}
use Rattle.reader.specs.Turns.{PartAt, ArgumentOnEdges, ByteAt}
use Rattle.reader.specs.declared.place.Argument.{Argument}
use Rattle.reader.specs.declared.place.Place.{Place}
use Rattle.reader.proofs.Arguing.{piece_within, place_bounds}
use Rattle.reader.proofs.WordEdges.{MadeUpToEdge, made_up_to_edge}

-- a part of a text, which begins and ends at edges: an edge in it is one in the text
module _ (text part : Bytes) (p : ℕ) (there : part ≡ take (length part) (drop p text)) where
  abbrev behind : Bytes
  behind = drop (length part) (drop p text)

  whole : drop p text ≡ part ++ behind
  whole = sym (take-append-drop (length part) (drop p text)) ∙ ap (λ l. l ++ behind) (sym there)

  part_edge : Edge text p → Edge text (p + length part) → (i : ℕ) → i ≤ length part → Edge part i → Edge text (p + i)
  part_edge first last i in' (start e) = subst (Edge text) (omega arith) first
  part_edge first last i in' (end e) = subst (Edge text) (omega arith) last
  part_edge first last i in' (before c rest is e) =
      before c (rest ++ behind) is (sym (drop-drop i p text)
      ∙ ap (drop i) whole
      ∙ drop-append-le i part behind in'
      ∙ ap (λ l. l ++ behind) e
      ∙ append_assoc c rest behind)
  part_edge first last i in' (after front c is e) =
      after (take p text ++ front) c is (take-add p i text
      ∙ ap (λ l. take p text ++ take i l) whole
      ∙ ap (λ l. take p text ++ l) (take-append-le i part behind in' ∙ e)
      ∙ sym (append_assoc (take p text) front c))

-- an argument that was cut at edges
module _ (text : Bytes) (a : Argument) (part : PartAt text a) (on : ArgumentOnEdges text a) where
  abbrev pub bytes : Bytes
  bytes = a.bytes.now

  abbrev pub size : ℕ
  size = length bytes

  abbrev from : ℕ
  from = a.end - size

  -- an edge in it is one in the text
  argument_edge : (n : ℕ) → n ≤ size → Edge bytes (size - n) → AtEdge text (a.end - n)
  argument_edge n in' edge =
      let long : size ≤ a.end = a.long in
      let last : Edge text (from + size) = subst (Edge text) (omega arith) on.last.edge in
      let at : from + (size - n) ≡ a.end - n = omega arith in
      record {
        within = omega (arith, part.within);
        edge = subst (Edge text) at (part_edge text bytes from part.there on.first.edge last (size - n) (omega arith) edge);
      }

  -- its last bytes, where they begin at an edge
  module _ (xs : Bytes) (b : Argument) (e : bytes ≡ xs ++ b.bytes.now) (end' : b.end ≡ a.end) (behind' : b.behind ≡ a.behind) where
    pub end_on_edges : Edge bytes (size - length b.bytes.now) → ArgumentOnEdges text b
    end_on_edges edge =
        let in' : length b.bytes.now ≤ size = omega (arith, ap length e, length-append xs b.bytes.now) in
        record {
          first = subst (λ n. AtEdge text (n - length b.bytes.now)) (sym end') (argument_edge (length b.bytes.now) in' edge);
          last = subst (AtEdge text) (sym end') on.last;
          behind = subst (λ (p : Place). AtEdge text p.at) (sym behind') on.behind;
        }

  -- what is left of a list behind its first flag
  module _ (c : Code) (m : Meaning) (n : ℕ) (e : Some (m, n) ≡ first_made c bytes) (some : n < size) where
    abbrev pub left : ℕ
    left = size - n

    pub rest_on_edges : AtEdge text (a.end - left) × AtEdge text (a.end - left + left)
    rest_on_edges =
        let long : size ≤ a.end = a.long in
        let made : Edge bytes n = subst (MadeUpToEdge c bytes) (sym e) (made_up_to_edge c bytes) in
        let place : n ≡ size - left = omega arith in
        let to : a.end ≡ a.end - left + left = omega arith in
        (argument_edge left (omega arith) (subst (Edge bytes) place made), subst (AtEdge text) to on.last)

module _ (text : Bytes) (a : Argument) (at : ℕ) (edge : AtEdge text at) (ends : a.end ≡ at + length a.bytes.now) where
  -- the argument that begins at an edge
  pub piece_on_edges : a.bytes.now ≡ piece_at 31 text at → a.behind.at ≡ place_behind 31 text at → ArgumentOnEdges text a
  piece_on_edges is behind' =
      let cut = cut_at_edges 31 text at (lit< tt) in
      let from : at ≡ a.end - length a.bytes.now = omega arith in
      let to : at + length (piece_at 31 text at) ≡ a.end = omega (arith, ap length is) in
      record {
        first = subst (AtEdge text) from edge;
        last = subst (AtEdge text) to (record { within = piece_within text at edge.within; edge = cut.before edge.within });
        behind = subst (AtEdge text) (sym behind') (record { within = (place_bounds text at edge.within).1; edge = cut.behind });
      }

  -- so many bytes up to an edge
  pub part_on_edges : (most : ℕ) → a.bytes.now ≡ take most (drop at text) → a.behind.at ≡ a.end → AtEdge text (at + most) → ArgumentOnEdges text a
  part_on_edges most is behind' last' =
      let all : length a.bytes.now ≡ most = ap length is ∙ length-take-le most (drop at text) (omega (arith, last'.within, length-drop at text)) in
      let from : at ≡ a.end - length a.bytes.now = omega arith in
      let to : at + most ≡ a.end = omega arith in
      record {
        first = subst (AtEdge text) from edge;
        last = subst (AtEdge text) to last';
        behind = subst (AtEdge text) (to ∙ sym behind') last';
      }

-- behind an ASCII byte
pub edge_next : (text : Bytes) (at : ℕ) → at < length text → get_or text at 0 < 128 → AtEdge text (at + 1)
edge_next text at in' ascii = record { within = omega arith; edge = edge_behind text at (get_or text at 0) in' refl ascii }

pub byte_there : (text : Bytes) (at x : ℕ) → ByteAt text at x → get_or text at 0 ≡ x
byte_there text at x is = cc (drop_more text at 0 is.within, is.here)
