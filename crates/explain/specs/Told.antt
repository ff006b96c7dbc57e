-- What is printed under an argument: the flags that it gives, and why it, or the rest of it, gives none. Assumes nothing.
use Rattle.std.specs.Prelude.{cond, List, [], ◌∷◌, ◌++◌, Some, None, codes, Option}
use Rattle.std.specs.Borrow.{Bor}
use Rattle.std.specs.List.{flat_map}
use Rattle.utf8.specs.Utf8.{utf8}
use Rattle.text.specs.Cuts.{cut_first}
use Rattle.text.specs.Shapes.{Form, empty, single, double, long, short, plain, form_of}
use Rattle.flags.specs.Codes.{about}
use Rattle.flags.specs.Meaning.{Bytes, Meaning}
use Rattle.flags.specs.declared.kinds.Code.{Code}
use Rattle.flags.specs.declared.kinds.Kind.{Kind}
use Rattle.flags.specs.declared.kinds.Kind.TheVariants as kind
use Rattle.construct.specs.Made.{all_made}
use Rattle.tables.specs.Tables.{Options}
use Rattle.reading.specs.Reading.{State, free, long_owed, short_owed, ended, step, equipped, alone, long_step, taking_rest, cluster_step}
use Rattle.show.specs.Shown.{shown}
use Rattle.explain.specs.declared.reasons.Reason.{Reason}
use Rattle.explain.specs.declared.reasons.Reason.TheVariants.{UnknownOption, TakesNoArgument, NotUtf8, NoKnownWord, NotOfTheForm, NoOption, BehindTheEnd}
use Rattle.explain.specs.declared.reasons.Need.{Need}
use Rattle.explain.specs.declared.reasons.Need.TheVariants as need
use Rattle.explain.specs.declared.told.Owed.{Owed}
use Rattle.explain.specs.declared.told.Owed.TheVariants.{Nothing, Long, Short, Ended}

abbrev pub flag_line : Meaning → Bytes
flag_line m = codes "   " ++ (shown m ++ codes "\n")

abbrev pub flag_lines : List Meaning → Bytes
flag_lines ms = flat_map flag_line ms

abbrev pub words : Reason → Bytes
words UnknownOption = codes "unknown option"
words TakesNoArgument = codes "takes no argument"
words NotUtf8 = codes "not UTF-8"
words NoKnownWord = codes "no known word"
words NotOfTheForm = codes "not of the option's form"
words NoOption = codes "no option"
words BehindTheEnd = codes "behind the end"

abbrev pub passed_over : Reason → Bytes
passed_over r = codes "   passed over: " ++ (words r ++ codes "\n")

-- of an option whose argument is the next one
abbrev pub awaits : Bytes
awaits = codes "   awaits its argument\n"

-- What an argument that gives no flag lacks, by the kind of its option: a known word, perhaps in a text; a form, in any bytes; or text, perhaps of a form.
-- Kinds that give a flag of every argument, or take none, need no line.
abbrev pub needs : Kind → Need
needs kind.LibrarySearchPath = need.Word
needs kind.CrateType = need.Word
needs kind.Emit = need.Word
needs kind.CapLints = need.Word
needs kind.ErrorFormat = need.Word
needs kind.Color = need.Word
needs kind.Link = need.WordInText
needs kind.Edition = need.Form
needs kind.RemapPathPrefix = need.Form
needs k = need.Text

abbrev pub lacks : Need → Bytes → Reason
lacks need.Word a = NoKnownWord
lacks need.WordInText a = cond (utf8 a) NoKnownWord NotUtf8
lacks need.Form a = NotOfTheForm
lacks need.Text a = cond (utf8 a) NotOfTheForm NotUtf8

-- the flags of what is left of an argument
abbrev pub made_of : Code → Option (Bor Bytes) → List Meaning
made_of c None = []
made_of c (Some bytes) = all_made c bytes.now

-- why an option gives nothing of its argument, where it gives nothing
abbrev pub made_note : Code → Bytes → Bytes
made_note c a = elim (all_made c a) [ [] ↦ passed_over (lacks (needs (about c).makes) a) | m ∷ ms ↦ [] ]

-- The notes, by the cases of reading.

abbrev pub equipped_note : Option Code → Bytes → Bytes
equipped_note None a = passed_over UnknownOption
equipped_note (Some c) a = elim (about c).flag [ Some flag ↦ passed_over TakesNoArgument | None ↦ made_note c a ]

abbrev pub alone_note : Option Code → Bytes
alone_note None = passed_over UnknownOption
alone_note (Some c) = elim (about c).flag [ Some flag ↦ [] | None ↦ awaits ]

abbrev pub long_note : Options → Bytes → Bytes
long_note o body = elim (cut_first 61 body) [ Some halves ↦ equipped_note (o.long halves.0) halves.1 | None ↦ alone_note (o.long body) ]

abbrev pub rest_note : Code → Bytes → Bytes
rest_note c [] = awaits
rest_note c (b ∷ bs) = made_note c (b ∷ bs)

abbrev pub cluster_note : Options → Bytes → Bytes
cluster_note o [] = []
cluster_note o (b ∷ bs) = elim (o.short b) [ None ↦ passed_over UnknownOption | Some c ↦ elim (about c).flag [ Some flag ↦ cluster_note o bs | None ↦ rest_note c bs ] ]

abbrev pub free_note : Options → Form → Bytes
free_note o empty = passed_over NoOption
free_note o single = passed_over NoOption
free_note o double = []
free_note o (long body) = long_note o body
free_note o (short letters) = cluster_note o letters
free_note o plain = passed_over NoOption

abbrev pub note : Options → State → Bytes → Bytes
note o free a = free_note o (form_of a)
note o (long_owed c) a = made_note c a
note o (short_owed c) a = made_note c a
note o ended a = passed_over BehindTheEnd

-- the flags that an argument gives in a state, and a note on what gives none
abbrev pub told : Options → State → Bytes → Bytes
told o s a = flag_lines (step o s a).0 ++ note o s a

-- The same of the parts of an argument.

abbrev pub made_told : Code → Bytes → Bytes
made_told c a = flag_lines (all_made c a) ++ made_note c a

abbrev pub equipped_told : Option Code → Bytes → Bytes
equipped_told c a = flag_lines (equipped c a).0 ++ equipped_note c a

abbrev pub alone_told : Option Code → Bytes
alone_told c = flag_lines (alone c).0 ++ alone_note c

abbrev pub long_told : Options → Bytes → Bytes
long_told o body = flag_lines (long_step o body).0 ++ long_note o body

abbrev pub rest_told : Code → Bytes → Bytes
rest_told c bs = flag_lines (taking_rest c bs).0 ++ rest_note c bs

abbrev pub cluster_told : Options → Bytes → Bytes
cluster_told o letters = flag_lines (cluster_step o letters).0 ++ cluster_note o letters

-- behind the last argument: an option that still lacks its own
abbrev pub end_told : State → Bytes
end_told free = []
end_told (long_owed c) = codes "end: the empty argument\n" ++ made_told c []
end_told (short_owed c) = codes "end: no argument left\n"
end_told ended = []

-- the state that a value of the program stands for
abbrev pub state_of : Owed → State
state_of Nothing = free
state_of (Long c) = long_owed c
state_of (Short c) = short_owed c
state_of Ended = ended
