use Rattle.std.proofs.Common.{◌≡◌, ◌++◌, suc, length, Some, None, string_bytes}
use Rattle.construct.specs.Made.{all_made}
use Rattle.explain.specs.Told.{flag_lines, made_of}
use Rattle.explain.proofs.told.push_flags.Given as goal

-- what is written, and the flags that are left
abbrev pub invariant-loop-rest : goal.invariant-loop-rest
invariant-loop-rest l = string_bytes l.out ++ flag_lines (made_of l.code l.rest) ≡ string_bytes l.fn.out ++ flag_lines (all_made l.code l.argument)

abbrev pub decreases-loop-rest : goal.decreases-loop-rest
decreases-loop-rest l = elim l.rest [ Some bytes ↦ suc (length (all_made l.code bytes.now)) | None ↦ 0 ]
