-- What a cursor leaves of a text. A place past the text is its end. Assumes nothing.
use Rattle.std.specs.Prelude.{◌≡◌, ℕ, ◌+◌, ◌≤◌, Bool, cond, List, [], ◌∷◌, ◌++◌, length, take, drop, Some, None, Ok, Err, Option, Result, nat_le}
use Rattle.std.specs.Option.{option_to_list}
use Rattle.text.specs.declared.refusals.Refusal.{Refusal}
use Rattle.text.specs.declared.refusals.Refusal.TheVariants.{TextTooLong}
use Rattle.flags.specs.Meaning.{Bytes, Meaning}
use Rattle.text.specs.Arguments.{separator, longest_text, pieces, piece_at, arguments}
use Rattle.text.specs.Cuts.{cut_first}
use Rattle.text.specs.Edges.{Edge}
use Rattle.tables.specs.Tables.{Options}
use Rattle.reading.specs.Reading.{reading}
use Rattle.reading.specs.Left.{Left, between, in_cluster, in_list, coming}
use Rattle.reader.specs.declared.cursor.Cursor.{Cursor}
use Rattle.reader.specs.declared.cursor.State.{State}
use Rattle.reader.specs.declared.cursor.State.TheVariants.{Between, Cluster, List as InList, Ended}

-- the arguments behind the piece at a place
abbrev pub args_behind : Bytes → ℕ → List Bytes
args_behind text at = elim (cut_first separator (drop at text)) [ Some halves ↦ pieces separator halves.1 | None ↦ [] ]

abbrev pub left_in : State → Bytes → ℕ → Left
left_in Between text at = between (pieces separator (drop at text))
left_in Cluster text at = in_cluster (piece_at separator text at) (args_behind text at)
left_in (InList code length) text at = in_list code (take length (drop at text)) (pieces separator (drop (at + length) text))
left_in Ended text at = between ([] ∷ [])

abbrev pub left_of : Cursor → Bytes → Left
left_of c text = left_in c.state text c.at

-- at the start of an argument
abbrev pub cursor_between : ℕ → Cursor
cursor_between at = record { at = at; state = Between }

-- at the start of a text
abbrev pub start : Cursor
start = cursor_between 0

-- a text of at most 65,535 bytes is read from its start; another is refused
abbrev pub opened : Bytes → Result Cursor Refusal
opened text = cond (nat_le (length text) longest_text) (Ok start) (Err TextTooLong)

-- A reader opened on a text is to give the flags of its arguments, under any table.
pub record AllComing (text : Bytes) : Type 0 where
  pub all : (o : Options) → coming o (left_of start text) ≡ reading o (arguments text)

-- the place is the text's end, or past it
abbrev pub at_end : Cursor → Bytes → Bool
at_end c text = nat_le (length text) c.at

-- a flag came first, or none came, and what is left behind it is to come
abbrev pub Comes : Options → Left → Option Meaning → Left → Type 0
Comes o before answer after = coming o before ≡ option_to_list answer ++ coming o after

-- a place in a text, at an edge of a character
pub record AtEdge (text : Bytes) (at : ℕ) : Type 0 where
  pub within : at ≤ length text
  pub edge : Edge text at

-- in a list, its end is an edge too
abbrev pub EndAtEdge : State → Bytes → ℕ → Type 0
EndAtEdge Between text at = Unit {0}
EndAtEdge Cluster text at = Unit {0}
EndAtEdge (InList code length) text at = AtEdge text (at + length)
EndAtEdge Ended text at = Unit {0}

-- a reader's places in a text are edges of characters
pub record OnEdges (c : Cursor) (text : Bytes) : Type 0 where
  pub here : AtEdge text c.at
  pub list_end : EndAtEdge c.state text c.at

-- a reader on edges is on edges later
pub record StaysOnEdges (text : Bytes) (before after : Cursor) : Type 0 where
  pub kept : OnEdges before text → OnEdges after text
