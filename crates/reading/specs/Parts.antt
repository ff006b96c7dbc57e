-- Reading a list of arguments in two parts. Assumes nothing.
use Rattle.std.specs.Prelude.{◌≡◌, List, [], ◌∷◌, ◌++◌}
use Rattle.flags.specs.Meaning.{Bytes, Meaning}
use Rattle.tables.specs.Tables.{Options}
use Rattle.reading.specs.Reading.{State, step, reading_from}

-- the flags that a first part gives, whatever follows it
abbrev pub flags_in : Options → State → List Bytes → List Meaning
flags_in o s [] = []
flags_in o s (a ∷ args) = (step o s a).0 ++ flags_in o (step o s a).1 args

-- the state behind it
abbrev pub state_behind : Options → State → List Bytes → State
state_behind o s [] = s
state_behind o s (a ∷ args) = state_behind o (step o s a).1 args

-- A list reads as its first part does, and then the second from the state behind that.
pub record InParts : Type 0 where
  pub split : (o : Options) (s : State) (first second : List Bytes) → reading_from o s (first ++ second) ≡ flags_in o s first ++ reading_from o (state_behind o s first) second
