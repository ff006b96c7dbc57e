-- Bytes that are a text: well-formed UTF-8. Assumes nothing.
use Rattle.std.specs.Prelude.{ℕ, cond, List, Some, None, Option}
use Rattle.utf8.specs.Utf8.{utf8}

-- the bytes, where they are a text
abbrev pub text_of : List ℕ → Option (List ℕ)
text_of bs = cond (utf8 bs) (Some bs) None
