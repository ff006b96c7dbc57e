-- What one turn of a reader tells: the definitions go on from there. It adds nothing to them. Assumes nothing.
use Rattle.std.specs.Prelude.{◌≡◌, ℕ, suc, ◌+◌, ◌-◌, ◌<◌, ◌≤◌, List, [], ◌∷◌, length, take, drop, Some, None, Option}
use Rattle.flags.specs.Meaning.{Bytes, meaning}
use Rattle.flags.specs.declared.kinds.Code.{Code}
use Rattle.text.specs.Arguments.{separator, pieces, piece_at}
use Rattle.tables.specs.Tables.{Options}
use Rattle.reading.specs.Left.{Left, First, between, in_list, behind, first_made_of, first_taken, first_from, first_rest, first_letter, first}
use Rattle.reading.specs.Reading.{free}
use Rattle.reader.specs.Cursors.{args_behind, cursor_between, left_in, left_of, AtEdge, OnEdges}
use Rattle.reader.specs.declared.cursor.Cursor.{Cursor}
use Rattle.reader.specs.declared.cursor.State.{State}
use Rattle.reader.specs.declared.cursor.State.TheVariants.{Between, Cluster, List as InList, Ended}
use Rattle.reader.specs.declared.place.Argument.{Argument}
use Rattle.reader.specs.declared.place.Place.{Place}
use Rattle.reader.specs.declared.turns.Turn.{Turn}
use Rattle.reader.specs.declared.turns.Turn.TheVariants.{Gives, Passes, Ends}

-- what is left, in numbers: two for each byte, and one more in a list
abbrev pub weight_in : State → ℕ → ℕ
weight_in Between n = n + n
weight_in Cluster n = n + n
weight_in (InList code length) n = suc (n + n)
weight_in Ended n = 0

abbrev pub weight : Bytes → Cursor → ℕ
weight text c = weight_in c.state (length text - c.at)

-- a flag comes first, and the cursor is behind it; or the first flag is that of a cursor with less left; or there is none
abbrev pub Tells : Options → Bytes → ℕ → First → Turn → Type 0
Tells o text w f (Gives flag c) = (f ≡ Some (meaning flag, left_of c text)) × (c.at ≤ length text)
Tells o text w f (Passes c) = (f ≡ first o (left_of c text)) × (weight text c < w)
Tells o text w f Ends = f ≡ None

-- The same at an argument that begins at a place, for each cursor that has more left than is left there.
abbrev pub TellsFrom : Options → Bytes → ℕ → First → Turn → Type 0
TellsFrom o text at f turn = (w : ℕ) → weight text (cursor_between at) < w → Tells o text w f turn

-- the same at a place, of a first flag by text and place
abbrev pub TellsAt : Options → Place → (Bytes → ℕ → First) → Turn → Type 0
TellsAt o here f turn = TellsFrom o here.text.now here.at (f here.text.now here.at) turn

-- a turn at a place, by what is to be read there
abbrev pub TellsIn : Options → State → Place → Turn → Type 0
TellsIn o state here turn =
    let text = here.text.now in
    Tells o text (weight_in state (length text - here.at)) (first o (left_in state text here.at)) turn

-- the bytes end at their place in a text, and reading goes on in the same
pub record PartAt (text : Bytes) (a : Argument) : Type 0 where
  pub there : a.bytes.now ≡ take (length a.bytes.now) (drop (a.end - length a.bytes.now) text)
  pub within : a.end ≤ length text
  pub same_text : a.behind.text.now ≡ text

-- An argument ends there too, and these are the arguments behind its separator.
pub record ArgumentAt (text : Bytes) (a : Argument) (args : List Bytes) : Type 0 where
  pub part : PartAt text a
  pub at_end : pieces separator (drop a.end text) ≡ [] ∷ args
  pub later : pieces separator (drop a.behind.at text) ≡ behind args

-- the first flag that an option makes of the bytes, or else of what stands behind them
abbrev pub first_made_at : Options → Code → Bytes → Argument → First
first_made_at o c text a =
    let on : Left = between (pieces separator (drop a.behind.at text)) in
    first_made_of c a.bytes.now on (λ rest. in_list c rest (pieces separator (drop a.end text))) (first o on)

-- a turn over an argument that an option takes
pub record TellsMade (c : Code) (a : Argument) (turn : Turn) : Type 0 where
  pub told : (o : Options) (text : Bytes) → PartAt text a → TellsFrom o text a.behind.at (first_made_at o c text a) turn

-- the first flag at a place, where an option takes the argument there
abbrev pub first_taken_at : Options → Code → Bytes → ℕ → First
first_taken_at o c text at = first_taken c (piece_at separator text at) (args_behind text at) (first_from o free (args_behind text at))

-- where an option in a cluster takes the rest of it, or the next argument
abbrev pub first_rest_at : Options → Code → Bytes → ℕ → First
first_rest_at o c text at = first_rest (args_behind text at) (λ t. first_from o t (args_behind text at)) c (piece_at separator text at)

-- where a letter of a cluster stands before the place
abbrev pub first_letter_at : Options → ℕ → Bytes → ℕ → First
first_letter_at o letter text at =
    first_letter (args_behind text at) (λ t. first_from o t (args_behind text at)) (o.short letter) (piece_at separator text at)

-- the byte at a place, if there is one
pub record ByteAt (text : Bytes) (at : ℕ) (x : ℕ) : Type 0 where
  pub within : at < length text
  pub here : drop at text ≡ x ∷ drop (at + 1) text

abbrev pub ToldByte : Bytes → ℕ → Option ℕ → Type 0
ToldByte text at (Some x) = ByteAt text at x
ToldByte text at None = (drop at text ≡ []) × (length text ≤ at)

-- a turn leaves a cursor on edges of characters
abbrev pub TurnOnEdges : Bytes → Turn → Type 0
TurnOnEdges text (Gives flag c) = OnEdges c text
TurnOnEdges text (Passes c) = OnEdges c text
TurnOnEdges text Ends = Unit {0}

-- an argument is cut from a text at edges, and reading goes on at one
pub record ArgumentOnEdges (text : Bytes) (a : Argument) : Type 0 where
  pub first : AtEdge text (a.end - length a.bytes.now)
  pub last : AtEdge text a.end
  pub behind : AtEdge text a.behind.at

-- The same where something begins at an edge: an argument at a place, a turn at one, a turn over an argument, a turn of a cursor.
pub record ArgumentFrom (here : Place) (a : Argument) : Type 0 where
  pub kept : AtEdge here.text.now here.at → ArgumentOnEdges here.text.now a

pub record EdgesFrom (here : Place) (turn : Turn) : Type 0 where
  pub kept : AtEdge here.text.now here.at → TurnOnEdges here.text.now turn

pub record EdgesOf (a : Argument) (turn : Turn) : Type 0 where
  pub kept : (text : Bytes) → PartAt text a → ArgumentOnEdges text a → TurnOnEdges text turn

pub record EdgesBehind (text : Bytes) (c : Cursor) (turn : Turn) : Type 0 where
  pub kept : OnEdges c text → TurnOnEdges text turn

abbrev pub EdgesIn : State → Place → Turn → Type 0
EdgesIn state here turn = EdgesBehind here.text.now (record { at = here.at; state = state }) turn
