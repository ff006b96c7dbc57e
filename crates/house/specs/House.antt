-- What a house table means. Assumes nothing.
use Rattle.std.specs.Prelude.{ℕ, Bool, cond, List, is_ok}
use Rattle.tables.specs.Tables.{Options, nothing}
use Rattle.rows.specs.Rows.{short_code, long_code, verdict}
use Rattle.rows.specs.declared.rows.Row.{Row}

-- what rows say
abbrev pub said : List ℕ → List Row → Options
said text rows = record { short = short_code text rows; long = long_code text rows }

abbrev pub accepted : List ℕ → List Row → Bool
accepted text rows = is_ok (verdict text rows)

-- a table knows what its rows say where the check accepts them, and nothing where it declines them
abbrev pub house : List ℕ → List Row → Options
house text rows = cond (accepted text rows) (said text rows) nothing
