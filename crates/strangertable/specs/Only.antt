-- A table of one option. Assumes nothing.
use Rattle.std.specs.Prelude.{cond, Some, None, ◌==◌}
use Rattle.flags.specs.declared.kinds.Code.TheVariants.{Of}
use Rattle.flags.specs.declared.kinds.Kind.TheVariants as kind
use Rattle.tables.specs.Tables.{Options}

abbrev pub only_z : Options
only_z = record { short = λ b. cond (b == 90) (Some (Of kind.Z)) None; long = λ n. None }
