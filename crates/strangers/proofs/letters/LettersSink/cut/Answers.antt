use Rattle.std.proofs.Common.{rules}
use Rattle.std.proofs.lemmas.List.{take-map}
use Rattle.strangers.proofs.letters.LettersSink.cut.Goals as goal

pub returns-clause-holds : goal.returns-clause-holds
returns-clause-holds c = search (rules, take-map)
