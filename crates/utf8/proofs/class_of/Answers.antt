use Rattle.std.proofs.Common.{rules}
use Rattle.utf8.specs.States.{classed}
use Rattle.utf8.proofs.Table.{entry}
use Rattle.utf8.proofs.class_of.Goals as goal

pub returns : goal.returns
returns c = entry classed c.classes.result.now c.classes.ensures c.args.byte (search rules)
