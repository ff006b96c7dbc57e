-- The search does not compute the whole table.
use Rattle.flags.proofs.Numbered.{coded}
use Rattle.flags.proofs.kinds.Code.at.Goals as goal

pub returns : goal.returns
returns c = coded _ _ _ c.copied.ensures c.get.ensures.lookup
