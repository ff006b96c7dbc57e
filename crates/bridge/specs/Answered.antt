-- What a caller in Rust or C is told of a flag. Assumes nothing.
use Rattle.std.specs.Prelude.{◌≡◌, ℕ, ◌⊎◌, List, [], ◌++◌, length, drop, Some, None, Option}
use Rattle.flags.specs.Codes.{code_of}
use Rattle.flags.specs.Meaning.{Bytes, Meaning}
use Rattle.construct.specs.Made.{first_made, all_made}
use Rattle.show.specs.Shown.{shown}
use Rattle.bridge.specs.declared.making.Answer.{Answer}

-- the first flag by a code's number; none where no code has it
abbrev pub made_by : ℕ → Bytes → Option (Meaning × ℕ)
made_by number a = elim (code_of number) [ Some c ↦ first_made c a | None ↦ None ]

-- all the flags by a code's number
abbrev pub all_by : ℕ → Bytes → List Meaning
all_by number a = elim (code_of number) [ Some c ↦ all_made c a | None ↦ [] ]

abbrev pub no_flag : Answer
no_flag = record { status = 0; length = 0; place = 0 }

abbrev pub no_room : Answer
no_room = record { status = 2; length = 0; place = 0 }

abbrev pub flag_at : ℕ → ℕ → Answer
flag_at n place = record { status = 1; length = n; place = place }

-- the bytes are at the front of the buffer, whose rest stays; or they found no room, and all of it stays
pub record There (bytes : Bytes) (place : ℕ) (r : Answer) (before after : Bytes) : Type 0 where
  pub answer : r ≡ flag_at (length bytes) place
  pub buffer : after ≡ bytes ++ drop (length bytes) before

pub record Stays (r s : Answer) (before after : Bytes) : Type 0 where
  pub answer : r ≡ s
  pub buffer : after ≡ before

abbrev pub Put : Bytes → ℕ → Answer → Bytes → Bytes → Type 0
Put bytes place r before after = There bytes place r before after ⊎ Stays r no_room before after

abbrev pub Answered : Option (Meaning × ℕ) → Answer → Bytes → Bytes → Type 0
Answered None r before after = Stays r no_flag before after
Answered (Some p) r before after = Put (shown p.0) p.1 r before after
