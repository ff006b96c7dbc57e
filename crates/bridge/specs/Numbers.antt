-- What a caller in Rust or C is told of a number, and of a report in its buffer. Assumes nothing.
use Rattle.std.specs.Prelude.{◌≡◌, ℕ, true, false, ◌⊎◌, ◌++◌, length, drop, Some, None, Option}
use Rattle.flags.specs.Meaning.{Bytes}
use Rattle.bridge.specs.Calls.{Report}
use Rattle.bridge.specs.declared.calling.Number.{Number}

abbrev pub told : Option ℕ → Number
told (Some n) = record { given = true; number = n }
told None = record { given = false; number = 0 }

-- a report of the text is at the front of the buffer, whose rest stays
pub record Filled (text : Bytes) (r : Number) (before after : Bytes) : Type 0 where
  pub report : Bytes
  pub told_so : Report text report
  pub answer : r ≡ told (Some (length report))
  pub buffer : after ≡ report ++ drop (length report) before

-- it found no room or no memory
pub record Unfilled (r : Number) (before after : Bytes) : Type 0 where
  pub answer : r ≡ told None
  pub buffer : after ≡ before

abbrev pub Written : Bytes → Number → Bytes → Bytes → Type 0
Written text r before after = Filled text r before after ⊎ Unfilled r before after
