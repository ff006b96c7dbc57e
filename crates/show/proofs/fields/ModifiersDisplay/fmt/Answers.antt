use Rattle.std.proofs.Common.{refl, rules}
use Rattle.std.proofs.Output.{has_written_append}
use Rattle.show.proofs.Separated.{one_more}
use Rattle.show.proofs.fields.ModifiersDisplay.fmt.Goals as goal

pub loop-modifier-preserved : goal.loop-modifier-preserved
loop-modifier-preserved g c = (
  search rules,
  λ plain.
      let so_far = c.loop-modifier.invariant.1 plain in
      (_, has_written_append _ _ _ _ _ _ so_far.1 (c.in_ok-write.ensures.writes so_far.1.plain refl), one_more so_far.0 c.loop-modifier.separator.now _ c.in-Some.modifier _ _ (search rules) c.spelling.ensures so_far.2),
)
