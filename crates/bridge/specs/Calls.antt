-- What a caller is told of a text that is read call by call, under the options of rustc. Assumes nothing.
use Rattle.std.specs.Prelude.{◌≡◌, ℕ, Bool, true, false, List, [], ◌∷◌, ◌++◌, length, Some, None, Ok, Err, codes, decimal, Option, Result, MatchResult}
use Rattle.text.specs.declared.refusals.Refusal.{Refusal}
use Rattle.text.specs.Arguments.{arguments}
use Rattle.text.specs.Refusals.{number}
use Rattle.flags.specs.Meaning.{Bytes, Meaning}
use Rattle.tables.specs.Rustc.{rustc}
use Rattle.reading.specs.Reading.{reading}
use Rattle.reader.specs.Cursors.{opened}
use Rattle.show.specs.Shown.{shown}

-- the flags of a text
abbrev pub flags_of : Bytes → List Meaning
flags_of text = reading rustc (arguments text)

-- how many they are, of a text that is not refused
abbrev pub counted : Bytes → Result ℕ Refusal
counted text = elim (opened text) [ Ok start ↦ Ok (length (flags_of text)) | Err refusal ↦ Err refusal ]

-- whether the reader has ended behind a call
abbrev pub mark : Bool → Bytes
mark true = codes "ended "
mark false = codes "on "

abbrev pub answer : Option Meaning → Bytes
answer (Some flag) = shown flag
answer None = codes "-"

-- the line of one call
abbrev pub call_line : Bool → Option Meaning → Bytes
call_line ended flag = mark ended ++ (answer flag ++ codes "\n")

-- The lines of the calls that give the flags, in order, and of three calls behind them. The contract of a reader leaves open when it has ended.
pub data Told : List Meaning → Bytes → Type 0 where
  at_the_end : (one two three : Bool) → Told [] (call_line one None ++ (call_line two None ++ call_line three None))
  gives : (ended : Bool) (flag : Meaning) (flags : List Meaning) (lines : Bytes) → Told flags lines → Told (flag ∷ flags) (call_line ended (Some flag) ++ lines)

-- the line of a text that is refused
abbrev pub refused_line : Refusal → Bytes
refused_line refusal = codes "refused " ++ (decimal (number refusal) ++ codes "\n")

-- what is reported of a text
abbrev pub Report : Bytes → Bytes → Type 0
Report text report = MatchResult (opened text) (λ start. Told (flags_of text) report) (λ refusal. report ≡ refused_line refusal)
