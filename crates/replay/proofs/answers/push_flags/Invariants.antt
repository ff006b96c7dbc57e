use Rattle.std.proofs.Common.{suc, length, Some, None}
use Rattle.bridge.specs.Answered.{all_by}
use Rattle.replay.proofs.answers.push_flags.Given as goal

-- the flags that are left
abbrev pub decreases-loop-rest : goal.decreases-loop-rest
decreases-loop-rest l = elim l.rest [ Some bytes ↦ suc (length (all_by l.number bytes.now)) | None ↦ 0 ]
