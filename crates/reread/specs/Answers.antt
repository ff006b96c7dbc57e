-- What is written of a line of the sample. Assumes nothing.
use Rattle.std.specs.Prelude.{List, [], ◌∷◌, ◌≡◌, ◌⊎◌, ◌++◌, codes}
use Rattle.flags.specs.Meaning.{Bytes}
use Rattle.hexadecimal.specs.Digits.{digits_of, OfBytes}
use Rattle.bridge.specs.Calls.{Report}

-- the line holds the digits of a text, and a report of that is written behind what was there
pub record Reread (line before after : Bytes) : Type 0 where
  pub text : Bytes
  pub report : Bytes
  pub digits : line ≡ digits_of text
  pub told : Report text report
  pub written : after ≡ before ++ report

-- it holds no digits of bytes, and that is said
pub record Unreadable (line before after : Bytes) : Type 0 where
  pub none : ¬ (OfBytes line)
  pub written : after ≡ before ++ codes "unreadable\n"

abbrev pub Answered : Bytes → Bytes → Bytes → Type 0
Answered line before after = Reread line before after ⊎ Unreadable line before after

-- what is written of lines, one after the other
pub data AllAnswered : List Bytes → Bytes → Type 0 where
  none_yet : AllAnswered [] []
  one_more : (lines : List Bytes) (line before after : Bytes) → AllAnswered lines before → Answered line before after → AllAnswered (lines ++ (line ∷ [])) after
