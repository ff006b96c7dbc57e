-- What a caller in Rust or C is told of places and cuts. Assumes nothing.
use Rattle.std.specs.Prelude.{ℕ, true, false, length, Some, None, Option}
use Rattle.text.specs.Cuts.{Halves}
use Rattle.bridge.specs.declared.cutting.Found.{Found}
use Rattle.bridge.specs.declared.cutting.Lengths.{Lengths}

abbrev pub found : Option ℕ → Found
found (Some i) = record { found = true; place = i }
found None = record { found = false; place = 0 }

abbrev pub lengths : Option Halves → Lengths
lengths (Some p) = record { found = true; front = length p.0; back = length p.1 }
lengths None = record { found = false; front = 0; back = 0 }
