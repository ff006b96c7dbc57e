use Rattle.std.proofs.Common.{rules}
use Rattle.sheet.proofs.States.{number_is}
use Rattle.sheet.proofs.sink.SheetSink.begin.Goals as goal

pub returns-then-self-clause-answer : goal.returns-then-self-clause-answer
returns-then-self-clause-answer c = let n = number_is c.args.self.now in search rules

pub returns-clause-answer : goal.returns-clause-answer
returns-clause-answer c = let n = number_is c.args.self.now in search rules
