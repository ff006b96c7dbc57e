-- What is left to read, the flags that come of it, and the first of them. Assumes nothing.
use Rattle.std.specs.Prelude.{List, [], ◌∷◌, ◌++◌, drop, Some, None, Option}
use Rattle.construct.specs.Made.{all_made, first_made}
use Rattle.flags.specs.Codes.{about}
use Rattle.flags.specs.Meaning.{Bytes, Meaning}
use Rattle.flags.specs.declared.kinds.Code.{Code}
use Rattle.tables.specs.Tables.{Options}
use Rattle.text.specs.Cuts.{cut_first}
use Rattle.text.specs.Shapes.{Form, form_of, empty, single, double, long, short, plain}
use Rattle.reading.specs.Reading.{State, free, long_owed, short_owed, ended, cluster_step, reading, reading_from}

-- whole arguments; the letters that are left of one and the arguments behind it; what is left of a list and the arguments behind that
pub data Left : Type 0 where
  between : List Bytes → Left
  in_cluster : Bytes → List Bytes → Left
  in_list : Code → Bytes → List Bytes → Left

-- the flags that come
abbrev pub coming : Options → Left → List Meaning
coming o (between arguments) = reading o arguments
coming o (in_cluster letters arguments) = (cluster_step o letters).0 ++ reading_from o (cluster_step o letters).1 arguments
coming o (in_list c rest arguments) = all_made c rest ++ reading o arguments

-- the first flag, and what is left behind it
abbrev pub First : Type 0
First = Option (Meaning × Left)

-- the arguments that are left behind one; at the end of a text, an empty one
abbrev pub behind : List Bytes → List Bytes
behind [] = [] ∷ []
behind (a ∷ args) = a ∷ args

-- an argument is used up, or something is left of it
abbrev pub rest_left : Left → (Bytes → Left) → Bytes → Left
rest_left used_up more [] = used_up
rest_left used_up more (b ∷ bs) = more (b ∷ bs)

-- the first flag of an option's argument, or else what comes later
abbrev pub first_made_of : Code → Bytes → Left → (Bytes → Left) → First → First
first_made_of c argument used_up more later = elim (first_made c argument) [ None ↦ later | Some made ↦ Some (made.0, rest_left used_up more (drop made.1 argument)) ]

-- The same of an argument with others behind it. Behind what is left of a list stands its end, and then those.
abbrev pub first_taken : Code → Bytes → List Bytes → First → First
first_taken c argument args later = first_made_of c argument (between (behind args)) (λ rest. in_list c rest ([] ∷ args)) later

-- In these, `args` are the arguments behind, and `later` is the first flag of them in a state.
module _ (args : List Bytes) (later : State → First) where
  abbrev pub first_equipped : Option Code → Bytes → First
  first_equipped None argument = later free
  first_equipped (Some c) argument = elim (about c).flag [ Some flag ↦ later free | None ↦ first_taken c argument args (later free) ]

  abbrev pub first_alone : Option Code → First
  first_alone None = later free
  first_alone (Some c) = elim (about c).flag [ Some flag ↦ Some (flag, between (behind args)) | None ↦ later (long_owed c) ]

  abbrev pub first_long : Options → Bytes → First
  first_long o body = elim (cut_first 61 body) [ Some halves ↦ first_equipped (o.long halves.0) halves.1 | None ↦ first_alone (o.long body) ]

  abbrev pub first_rest : Code → Bytes → First
  first_rest c [] = later (short_owed c)
  first_rest c (b ∷ bs) = first_taken c (b ∷ bs) args (later free)

  abbrev pub first_letter : Option Code → Bytes → First
  first_letter None bs = later free
  first_letter (Some c) bs = elim (about c).flag [ Some flag ↦ Some (flag, in_cluster bs args) | None ↦ first_rest c bs ]

  abbrev pub first_cluster : Options → Bytes → First
  first_cluster o [] = later free
  first_cluster o (b ∷ bs) = first_letter (o.short b) bs

  abbrev pub first_free : Options → Form → First
  first_free o empty = later free
  first_free o single = later free
  first_free o double = later ended
  first_free o (long body) = first_long o body
  first_free o (short letters) = first_cluster o letters
  first_free o plain = later free

  abbrev pub first_of : Options → State → Bytes → First
  first_of o free argument = first_free o (form_of argument)
  first_of o (long_owed c) argument = first_taken c argument args (later free)
  first_of o (short_owed c) argument = first_taken c argument args (later free)
  first_of o ended argument = None

abbrev pub first_at_end : State → First
first_at_end free = None
first_at_end (long_owed c) = first_taken c [] [] None
first_at_end (short_owed c) = None
first_at_end ended = None

abbrev pub first_from : Options → State → List Bytes → First
first_from o s [] = first_at_end s
first_from o s (a ∷ args) = first_of args (λ t. first_from o t args) o s a

abbrev pub first : Options → Left → First
first o (between args) = first_from o free args
first o (in_cluster letters args) = first_cluster args (λ t. first_from o t args) o letters
first o (in_list c rest args) = first_made_of c rest (between args) (λ more. in_list c more args) (first_from o free args)

-- what is left behind the first flag; where there is none, the end
abbrev pub after : First → Left
after None = between ([] ∷ [])
after (Some p) = p.1
