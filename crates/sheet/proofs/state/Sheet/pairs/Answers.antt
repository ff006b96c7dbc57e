use Rattle.sheet.proofs.States.{every_pair}
use Rattle.sheet.proofs.state.Sheet.pairs.Goals as goal

pub returns-clause-every_pair : goal.returns-clause-every_pair
returns-clause-every_pair c = every_pair c.args.self.now
