-- From a list of arguments to its flags, under a table of options. Assumes nothing.
use Rattle.std.specs.Prelude.{List, [], ◌∷◌, ◌++◌, Some, None, Option}
use Rattle.construct.specs.Made.{all_made}
use Rattle.flags.specs.Codes.{about}
use Rattle.flags.specs.Meaning.{Bytes, Meaning}
use Rattle.flags.specs.declared.kinds.Code.{Code}
use Rattle.tables.specs.Tables.{Options}
use Rattle.text.specs.Cuts.{cut_first}
use Rattle.text.specs.Shapes.{Form, form_of, empty, single, double, long, short, plain}

-- what stands between two arguments: nothing is owed, an option lacks its argument, or `--` was met
pub data State : Type 0 where
  free : State
  long_owed : Code → State
  short_owed : Code → State
  ended : State

-- what one argument gives, and the state behind it
abbrev pub Step : Type 0
Step = List Meaning × State

abbrev pub unknown : Step
unknown = ([], free)

abbrev pub given : Code → Bytes → Step
given c argument = (all_made c argument, free)

-- `--name=arg`: an option that has a flag of its own takes no argument, and gives nothing here
abbrev pub equipped : Option Code → Bytes → Step
equipped None argument = unknown
equipped (Some c) argument = elim (about c).flag [ Some flag ↦ unknown | None ↦ given c argument ]

-- `--name`
abbrev pub alone : Option Code → Step
alone None = unknown
alone (Some c) = elim (about c).flag [ Some flag ↦ (flag ∷ [], free) | None ↦ ([], long_owed c) ]

-- the name ends at the first `=`
abbrev pub long_step : Options → Bytes → Step
long_step o body = elim (cut_first 61 body) [ Some halves ↦ equipped (o.long halves.0) halves.1 | None ↦ alone (o.long body) ]

-- an option in a cluster that takes an argument: the rest, if there is one, else the next argument
abbrev pub taking_rest : Code → Bytes → Step
taking_rest c [] = ([], short_owed c)
taking_rest c (b ∷ bs) = given c (b ∷ bs)

abbrev pub before : Meaning → Step → Step
before flag step = (flag ∷ step.0, step.1)

-- `-letters`, read in turn; an unknown letter ends the argument
abbrev pub cluster_step : Options → Bytes → Step
cluster_step o [] = unknown
cluster_step o (b ∷ bs) = elim (o.short b) [ None ↦ unknown | Some c ↦ elim (about c).flag [ Some flag ↦ before flag (cluster_step o bs) | None ↦ taking_rest c bs ] ]

abbrev pub free_step : Options → Form → Step
free_step o empty = unknown
free_step o single = unknown
free_step o double = ([], ended)
free_step o (long body) = long_step o body
free_step o (short letters) = cluster_step o letters
free_step o plain = unknown

abbrev pub step : Options → State → Bytes → Step
step o free argument = free_step o (form_of argument)
step o (long_owed c) argument = given c argument
step o (short_owed c) argument = given c argument
step o ended argument = ([], ended)

-- behind the last argument a long option still owed takes the empty one, and a short option gives nothing
abbrev pub at_end : State → List Meaning
at_end free = []
at_end (long_owed c) = all_made c []
at_end (short_owed c) = []
at_end ended = []

abbrev pub reading_from : Options → State → List Bytes → List Meaning
reading_from o s [] = at_end s
reading_from o s (a ∷ args) = (step o s a).0 ++ reading_from o (step o s a).1 args

-- the flags that a list of arguments gives
abbrev pub reading : Options → List Bytes → List Meaning
reading o arguments = reading_from o free arguments
