-- Turns stay on edges of a text, by what they are made of. Assumes nothing.
use Rattle.std.proofs.Common.{◌≡◌, ℕ, ◌+◌, ◌-◌, ◌<◌, [], ◌∷◌, ◌++◌, length, Some, min, sym, ◌∙◌, subst, arith}
use Rattle.std.proofs.lemmas.List.{append_assoc}
use Rattle.construct.specs.Made.{first_made}
use Rattle.flags.specs.Meaning.{Bytes, meaning}
use Rattle.flags.specs.declared.flag.Flag.{Flag}
use Rattle.flags.specs.declared.kinds.Code.{Code}
use Rattle.text.specs.Cuts.{cut_first}
use Rattle.text.specs.Edges.{Edge, AtEdges}
use Rattle.text.proofs.Cutting.{cut_first_whole}
use Rattle.text.proofs.Edging.{first_edges}
use Rattle.reader.specs.Cursors.{cursor_between, AtEdge, OnEdges, StaysOnEdges}
use Rattle.reader.specs.Turns.{ArgumentOnEdges, ByteAt, TurnOnEdges, ArgumentFrom, EdgesFrom, EdgesOf, EdgesBehind, EdgesIn}
use Rattle.reader.specs.declared.cursor.Cursor.{Cursor}
use Rattle.reader.specs.declared.cursor.State.{State}
use Rattle.reader.specs.declared.cursor.State.TheVariants.{Cluster, List as InList}
use Rattle.reader.specs.declared.place.Argument.{Argument}
use Rattle.reader.specs.declared.place.Place.{Place}
use Rattle.reader.specs.declared.turns.Turn.{Turn}
use Rattle.reader.specs.declared.turns.Turn.TheVariants.{Gives, Passes}
use Rattle.reader.proofs.Arguing.{part_end}
use Rattle.reader.proofs.ArgumentEdges.{end_on_edges, rest_on_edges, edge_next, byte_there}

module _ (a : Argument) (c : Cursor) (e : c ≡ cursor_between a.behind.at) where
  behind_on_edges : (text : Bytes) → ArgumentOnEdges text a → OnEdges c text
  behind_on_edges text on = rw e (record { here = on.behind; list_end = tt })

  pub gives_behind : (flag : Flag) → EdgesOf a (Gives flag c)
  gives_behind flag = record { kept = λ text part on. behind_on_edges text on }

  pub passes_behind : EdgesOf a (Passes c)
  passes_behind = record { kept = λ text part on. behind_on_edges text on }

  pub passes_over : (here : Place) → ArgumentFrom here a → EdgesFrom here (Passes c)
  passes_over here from = record { kept = λ edge. behind_on_edges here.text.now (from.kept edge) }

module _ (here : Place) (c : Cursor) (e : c ≡ cursor_between here.at) where
  here_on_edges : AtEdge here.text.now here.at → OnEdges c here.text.now
  here_on_edges edge = rw e (record { here = edge; list_end = tt })

  pub gives_here : (flag : Flag) → EdgesFrom here (Gives flag c)
  gives_here flag = record { kept = here_on_edges }

  pub passes_here : EdgesFrom here (Passes c)
  passes_here = record { kept = here_on_edges }

-- what is left of a list, as a cursor
module _ (a : Argument) (c : Code) (n : ℕ) where
  abbrev pub left_behind : Cursor
  left_behind = record { at = a.end - (length a.bytes.now - n); state = InList c (length a.bytes.now - n) }

module _ (a : Argument) (flag : Flag) (c : Code) (n : ℕ) where
  pub gives_rest : Some (meaning flag, n) ≡ first_made c a.bytes.now → n < length a.bytes.now → EdgesOf a (Gives flag (left_behind a c n))
  gives_rest e some = record {
    kept = λ text part on.
        let rest = rest_on_edges text a part on c (meaning flag) n e some in
        record { here = rest.0; list_end = rest.1 };
  }

-- a turn at a place is one of a cursor there
pub turns_here : (s : State) (here : Place) (turn : Turn) → EdgesFrom here turn → EdgesIn s here turn
turns_here s here turn from = record { kept = λ on. from.kept on.here }

-- behind a byte that is ASCII
module _ (here next : Place) (turn : Turn) (e : next.text.now ≡ here.text.now) where
  pub from_next : AtEdge here.text.now next.at → EdgesFrom next turn → EdgesFrom here turn
  from_next edge from = record { kept = λ _. subst (λ t. TurnOnEdges t turn) e (from.kept (subst (λ t. AtEdge t next.at) (sym e) edge)) }

  pub turns_next : AtEdge here.text.now next.at → EdgesFrom next turn → (s : State) → EdgesIn s here turn
  turns_next edge from s = turns_here s here turn (from_next edge from)

module _ (here : Place) (x : ℕ) (is : ByteAt here.text.now here.at x) (ascii : x < 128) where
  byte_edge : AtEdge here.text.now (here.at + 1)
  byte_edge = edge_next here.text.now here.at is.within (rw (byte_there here.text.now here.at x is) ascii)

  pub passes_in : (c : Cursor) → c.at ≡ here.at + 1 → c.state ≡ Cluster → EdgesFrom here (Passes c)
  passes_in c e s = record { kept = λ _. record { here = subst (AtEdge here.text.now) (sym e) byte_edge; list_end = rw s tt } }

  pub passes_next : (s : State) (c : Cursor) → c ≡ cursor_between (here.at + 1) → EdgesIn s here (Passes c)
  passes_next s c e = record { kept = λ _. rw e (record { here = byte_edge; list_end = tt }) }

pub turns_behind : (a : Argument) (turn : Turn) → EdgesFrom a.behind turn → EdgesOf a turn
turns_behind a turn from = record {
  kept = λ text part on.
      let edge = subst (λ t. AtEdge t a.behind.at) (sym part.same_text) on.behind in
      subst (λ t. TurnOnEdges t turn) part.same_text (from.kept edge);
}

-- over the last bytes of an argument
module _ (a b : Argument) (turn : Turn) (e : b.end ≡ a.end) (f : b.behind ≡ a.behind) (turns : EdgesOf b turn) where
  pub turns_end : (xs : Bytes) → a.bytes.now ≡ xs ++ b.bytes.now → Edge a.bytes.now (length a.bytes.now - length b.bytes.now) → EdgesOf a turn
  turns_end xs whole edge = record {
    kept = λ text part on. turns.kept text (part_end text xs a b whole e f part) (end_on_edges text a part on xs b whole e f edge);
  }

  -- behind a byte of it that is ASCII
  pub turns_cut : (x : ℕ) (xs : Bytes) → x < 128 → Some (xs, b.bytes.now) ≡ cut_first x a.bytes.now → EdgesOf a turn
  turns_cut x xs ascii cut =
      let edges : AtEdges a.bytes.now (Some (xs, b.bytes.now)) = subst (AtEdges a.bytes.now) (sym cut) (first_edges x a.bytes.now ascii) in
      let whole = cut_first_whole x a.bytes.now (xs, b.bytes.now) (sym cut) in
      turns_end (xs ++ x ∷ []) (whole ∙ sym (append_assoc xs (x ∷ []) b.bytes.now)) edges.1

-- a cursor on edges is in its text
module _ (text : Bytes) (c : Cursor) (k : ℕ) (turn : Turn) where
  abbrev pub cursor_at : ℕ → Cursor
  cursor_at n = record { at = n; state = c.state }

  pub turns_clipped : k ≡ min c.at (length text) → EdgesBehind text (cursor_at k) turn → EdgesBehind text c turn
  turns_clipped e turns = record {
    kept = λ on.
        let same : c.at ≡ k = omega (arith, e, on.here.within) in
        turns.kept (subst (λ n. OnEdges (cursor_at n) text) same on);
  }

-- a reader goes on behind a turn
module _ (text : Bytes) (first before after : Cursor) (on : StaysOnEdges text first before) where
  pub gives_stays : (flag : Flag) → EdgesBehind text before (Gives flag after) → StaysOnEdges text first after
  gives_stays flag turn = record { kept = λ edges. turn.kept (on.kept edges) }

  pub passes_stays : EdgesBehind text before (Passes after) → StaysOnEdges text first after
  passes_stays turn = record { kept = λ edges. turn.kept (on.kept edges) }
