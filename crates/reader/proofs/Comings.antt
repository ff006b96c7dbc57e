-- The first flag of what is left, and what is to come behind it. Assumes nothing.
use Rattle.std.proofs.Common.{◌≡◌, [], ◌∷◌, Some, None, ap, ◌∙◌}
use Rattle.flags.specs.Meaning.{Meaning}
use Rattle.tables.specs.Tables.{Options}
use Rattle.reading.specs.Left.{Left, between, first}
use Rattle.reading.proofs.Coming.{all_from, coming_first}
use Rattle.reader.specs.Cursors.{Comes}

module _ (o : Options) (l : Left) where
  pub gives_comes : (m : Meaning) (rest : Left) → first o l ≡ Some (m, rest) → Comes o l (Some m) rest
  gives_comes m rest e = coming_first o l ∙ ap (all_from o) e

  pub ends_comes : first o l ≡ None → Comes o l None (between ([] ∷ []))
  ends_comes e = coming_first o l ∙ ap (all_from o) e
