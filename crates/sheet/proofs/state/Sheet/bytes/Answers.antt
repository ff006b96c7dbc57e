use Rattle.sheet.proofs.States.{every_byte}
use Rattle.sheet.proofs.state.Sheet.bytes.Goals as goal

pub returns-clause-every_byte : goal.returns-clause-every_byte
returns-clause-every_byte c = every_byte c.args.self.now
