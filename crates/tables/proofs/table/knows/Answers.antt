use Rattle.tables.proofs.Known.{ways_agree}
use Rattle.tables.proofs.table.knows.Goals as goal

pub returns-clause-ways : goal.returns-clause-ways
returns-clause-ways g c = ways_agree _ _ (g.met.T.Table.lawful _)
