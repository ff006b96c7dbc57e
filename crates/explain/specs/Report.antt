-- What the program prints of a text. Assumes nothing.
use Rattle.std.specs.Prelude.{ℕ, suc, Bool, true, false, cond, List, [], ◌∷◌, ◌++◌, length, codes, decimal, nat_le}
use Rattle.escape.specs.Escaped.{escaped}
use Rattle.utf8.specs.Utf8.{utf8}
use Rattle.text.specs.declared.refusals.Refusal.{Refusal}
use Rattle.text.specs.declared.refusals.Refusal.TheVariants.{TextTooLong}
use Rattle.text.specs.Arguments.{longest_text, arguments}
use Rattle.text.specs.Refusals.{number, said}
use Rattle.text.specs.Shapes.{Form, empty, single, double, long, short, plain, form_of}
use Rattle.tables.specs.Rustc.{rustc}
use Rattle.reading.specs.Reading.{State, free, step}
use Rattle.explain.specs.Told.{told, end_told}

abbrev pub shape_name : Form → List ℕ
shape_name empty = codes "empty"
shape_name single = codes "lone dash"
shape_name double = codes "end"
shape_name (long name) = codes "long option"
shape_name (short letters) = codes "short option"
shape_name plain = codes "no option"

abbrev pub encoding_name : Bool → List ℕ
encoding_name true = codes "UTF-8"
encoding_name false = codes "not UTF-8"

-- one argument and its number
abbrev pub line : ℕ → List ℕ → List ℕ
line n a =
    decimal n ++ (codes ": " ++ (escaped a ++ (codes " (" ++ (shape_name (form_of a) ++ (codes ", " ++ (encoding_name (utf8 a) ++ codes ")\n"))))))

-- the lines of the arguments from a state on, each with its flags and its note under it
abbrev pub lines : ℕ → State → List (List ℕ) → List ℕ
lines n s [] = end_told s
lines n s (a ∷ rest) = line n a ++ (told rustc s a ++ lines (suc n) (step rustc s a).1 rest)

abbrev pub heading : List ℕ → List ℕ
heading text = decimal (length text) ++ (codes " bytes, " ++ (decimal (length (arguments text)) ++ codes " arguments\n"))

abbrev pub accepted : List ℕ → List ℕ
accepted text = heading text ++ lines 1 free (arguments text)

abbrev pub refused : Refusal → List ℕ
refused r = codes "refused " ++ (decimal (number r) ++ (codes ": " ++ (said r ++ codes "\n")))

abbrev pub report : List ℕ → List ℕ
report text = cond (nat_le (length text) longest_text) (accepted text) (refused TextTooLong)
