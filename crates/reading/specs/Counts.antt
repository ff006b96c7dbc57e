-- How many flags a text can give. Assumes nothing.
use Rattle.std.specs.Prelude.{ℕ, ◌≤◌, length}
use Rattle.flags.specs.Meaning.{Bytes}
use Rattle.tables.specs.Tables.{Options}
use Rattle.text.specs.Arguments.{arguments}
use Rattle.reading.specs.Reading.{reading}

-- under any table, at most n
pub record AtMost (n : ℕ) (text : Bytes) : Type 0 where
  pub flags : (o : Options) → length (reading o (arguments text)) ≤ n
