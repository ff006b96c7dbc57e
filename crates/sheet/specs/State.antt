-- What a sheet means. Assumes nothing.
use Rattle.std.specs.Prelude.{◌≡◌, ℕ, ◌+◌, ◌≤◌, List, length, take, drop, Some}
use Rattle.std.specs.Borrow.{GName}
use Rattle.std.specs.Option.{option_map}
use Rattle.sinks.specs.Sinks.{Held}
use Rattle.sheet.specs.Rows.{cut_up}
use Rattle.sheet.specs.declared.state.Sheet.{Sheet}

-- the finished bytes as the rows cut them up, and what stands behind them
abbrev pub held : Sheet → Held
held s = record {
  list = cut_up (take s.count s.pairs.now) (take s.finished s.bytes.now);
  pending = option_map (λ n. take n (drop s.finished s.bytes.now)) s.pending;
}

-- the bytes past the limit
abbrev pub beyond : Sheet → List ℕ
beyond s = drop s.limit s.bytes.now

-- the limit, the number of rows, what stands past the limit, and which buffer and table they are
pub record Lasting : Type 0 where
  pub limit : ℕ
  pub rows : ℕ
  pub past : List ℕ
  pub buffer : GName
  pub table : GName

abbrev pub lasting : Sheet → Lasting
lasting s = record { limit = s.limit; rows = length s.pairs.now; past = beyond s; buffer = s.bytes.ghost_name; table = s.pairs.ghost_name }

-- bytes may be added to the open argument, which has this length: one is open, and there is space
pub record CanWrite (s : Sheet) (len : ℕ) (bytes : List ℕ) : Type 0 where
  pub begun : s.pending ≡ Some len
  pub room : s.finished + len + length bytes ≤ s.limit
