-- The examples read as they are listed. Assumes nothing.
use Rattle.std.proofs.Common.{refl}
use Rattle.utf8.specs.Utf8 as text
use Rattle.reading.specs.Examples.{AllRead}

pub all_read : AllRead
unfolding text.utf8
all_read = record { each = (refl, (refl, (refl, (refl, (refl, (refl, (refl, (refl, (refl, (refl, (refl, (refl, (refl, (refl, (refl, (refl, (refl, tt))))))))))))))))) }
