-- Good rows, in words. `check` answers Ok exactly for these. Assumes nothing.
use Rattle.std.specs.Prelude.{◌≡◌, ℕ, ◌+◌, ◌<◌, ◌≤◌, Bool, true, List, length, Some, ◌≢◌}
use Rattle.std.specs.List.{slice_get}
use Rattle.flags.specs.Codes.{about, code_of}
use Rattle.flags.specs.declared.kinds.Code.{Code}
use Rattle.flags.specs.declared.kinds.Code.TheVariants.{Of}
use Rattle.flags.specs.declared.kinds.Kind.{Kind}
use Rattle.rows.specs.Rows.{name_of, home_name}
use Rattle.rows.specs.declared.rows.Row.{Row}

-- 33 to 126 are 0x21 to 0x7e, 61 is `=` and 45 is `-`
pub record GoodRow (text : List ℕ) (row : Row) : Type 0 where
  pub inside : row.offset + row.length ≤ length text
  pub a_byte : 0 < row.length
  pub bytes : (k b : ℕ) → slice_get (name_of text row) k ≡ Some b → (33 ≤ b) × (b ≤ 126) × (b ≢ 61)
  pub no_dash : slice_get (name_of text row) 0 ≡ Some 45 → ⊥
  pub a_code : row.code ≤ 32

-- some row has the name in the kind's home spelling, and the kind's own code
pub record OwnHome (text : List ℕ) (rows : List Row) (kind : Kind) : Type 0 where
  pub place : ℕ
  pub row : Row
  pub there : slice_get rows place ≡ Some row
  pub name : name_of text row ≡ home_name kind
  pub code : row.code ≡ (about (Of kind)).number

-- at most 256 rows, each of them good; a later row begins at or behind the end of an earlier one, and has another name; the kind that a row's
-- code makes has its home
pub record Good (text : List ℕ) (rows : List Row) : Type 0 where
  pub few : length rows ≤ 256
  pub each : (i : ℕ) (row : Row) → slice_get rows i ≡ Some row → GoodRow text row
  pub apart : (i j : ℕ) (a b : Row) → i < j → slice_get rows i ≡ Some a → slice_get rows j ≡ Some b → a.offset + a.length ≤ b.offset
  pub once : (i j : ℕ) (a b : Row) → i < j → slice_get rows i ≡ Some a → slice_get rows j ≡ Some b → name_of text a ≢ name_of text b
  pub homed : (i : ℕ) (row : Row) (c : Code) → slice_get rows i ≡ Some row → code_of row.code ≡ Some c → OwnHome text rows (about c).makes

pub record TellsGood (r : Bool) (text : List ℕ) (rows : List Row) : Type 0 where
  pub good : r ≡ true → Good text rows
  pub told : Good text rows → r ≡ true
