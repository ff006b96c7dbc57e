use Rattle.words.proofs.Spelled.{read_longer, read_past, reads_exactly}
use Rattle.std.proofs.Common.{arith}
use Rattle.words.proofs.reading.tries.Goals as goal

pub returns-then-bytes-LONGEST : goal.returns-then-bytes-LONGEST
returns-then-bytes-LONGEST g c =
    let s = g.W.WordSet in
    record { end = read_past s.spelled s.words _ _ (omega (arith, g.met.W.WordSet.counted)); exactly = reads_exactly s.spelled s.words g.met.W.WordSet.reads _ }

pub returns-else-bytes-LONGEST : goal.returns-else-bytes-LONGEST
returns-else-bytes-LONGEST g c =
    let s = g.W.WordSet in
    record { end = read_longer s.spelled s.words _ (omega (arith, g.met.W.WordSet.bounded)); exactly = reads_exactly s.spelled s.words g.met.W.WordSet.reads _ }
