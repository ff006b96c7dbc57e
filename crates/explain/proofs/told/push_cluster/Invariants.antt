use Rattle.std.proofs.Common.{◌≡◌, ◌++◌, length, string_bytes}
use Rattle.reading.specs.Reading.{cluster_step}
use Rattle.explain.specs.Told.{cluster_told}
use Rattle.explain.proofs.told.push_cluster.Given as goal

-- what is written, and what the letters that are left tell
abbrev pub invariant-loop-left : goal.invariant-loop-left
invariant-loop-left g l =
    let o = g.T.Table.means l.table in
    record {
      lines : string_bytes l.out ++ cluster_told o l.left ≡ string_bytes l.fn.out ++ cluster_told o l.letters;
      state : (cluster_step o l.left).1 ≡ (cluster_step o l.letters).1;
    }

abbrev pub decreases-loop-left : goal.decreases-loop-left
decreases-loop-left g l = length l.left
