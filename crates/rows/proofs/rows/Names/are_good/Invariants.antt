use Rattle.std.proofs.Common.{◌≡◌, ℕ, Bool, ◌&&◌, List, drop}
use Rattle.std.specs.List.{list_all}
use Rattle.rows.specs.Rows.{good_row, in_order}
use Rattle.rows.specs.declared.rows.Row.{Row}
use Rattle.rows.proofs.rows.Names.are_good.Given as goal

abbrev placed : List ℕ → ℕ → List Row → Bool
placed text place rows = in_order place rows && list_all (good_row text) rows

abbrev pub invariant-loop-row : goal.invariant-loop-row
invariant-loop-row l = placed l.self.text.now l.place (drop l.row-index l.row-items) ≡ placed l.self.text.now 0 l.self.rows.now
