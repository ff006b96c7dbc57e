-- Where a text may be cut, as Rust's OsStr has it: at its ends, and right before or right behind a character. Assumes nothing.
use Rattle.std.specs.Prelude.{◌≡◌, ℕ, ◌-◌, List, ◌++◌, length, take, drop, Some, None, Option}
use Rattle.utf8.specs.Utf8.{Character}
use Rattle.text.specs.Cuts.{Halves}

pub data Edge (bs : List ℕ) (i : ℕ) : Type 0 where
  start : i ≡ 0 → Edge bs i
  end : i ≡ length bs → Edge bs i
  before : (c rest : List ℕ) → Character c → drop i bs ≡ c ++ rest → Edge bs i
  after : (front c : List ℕ) → Character c → take i bs ≡ front ++ c → Edge bs i

-- a cut ends the first half and begins the second at an edge
abbrev pub AtEdges : List ℕ → Option Halves → Type 0
AtEdges bs None = Unit {0}
AtEdges bs (Some p) = Edge bs (length p.0) × Edge bs (length bs - length p.1)
