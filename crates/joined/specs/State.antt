-- What a joined sink means. Assumes nothing.
use Rattle.std.specs.Prelude.{◌≡◌, ℕ, ◌+◌, ◌<◌, ◌≤◌, false, List, ◌++◌, length, take, drop, None, IsSome}
use Rattle.std.specs.Borrow.{GName}
use Rattle.std.specs.Option.{option_map, option_to_list}
use Rattle.text.specs.Arguments.{separator, arguments}
use Rattle.text.specs.Cuts.{holds}
use Rattle.sinks.specs.Sinks.{Held}
use Rattle.joined.specs.Parts.{Text}
use Rattle.joined.specs.declared.state.Joined.{Joined}

-- the arguments of the finished text, and what stands behind it
abbrev pub held : Joined → Held
held s = record {
  list = arguments (take s.finished s.buffer.now);
  pending = option_map (λ at. drop at (take s.used s.buffer.now)) s.start;
}

-- the size of the buffer
abbrev pub size : Joined → ℕ
size s = length s.buffer.now

-- the size, and which buffer it is
abbrev pub lasting : Joined → ℕ × GName
lasting s = (size s, s.buffer.ghost_name)

-- What the check of each call tells the step behind it: these add no meaning.
pub record CanBegin (s : Joined) : Type 0 where
  pub shut : s.start ≡ None
  pub room : 0 < s.finished → s.finished < size s

pub record CanWrite (s : Joined) (bytes : List ℕ) : Type 0 where
  pub begun : IsSome s.start
  pub room : s.used + length bytes ≤ size s
  pub whole : holds separator bytes ≡ false

pub record CanFinish (s : Joined) : Type 0 where
  pub fits : s.count + 1 ≤ s.used
  pub text : Text s.buffer.now s.used (s.count + 1)
  pub list : (held s).list ++ option_to_list (held s).pending ≡ arguments (take s.used s.buffer.now)
