use Rattle.std.proofs.Common.{rules}
use Rattle.words.proofs.Spelled.{read_filtered}
use Rattle.words.proofs.reading.spelled_at.Goals as goal

pub returns : goal.returns
returns g c = let s = g.W.WordSet in read_filtered s.spelled s.words c.args.place c.args.bytes.now (λ w t told. search rules) _ _ c.at.ensures c.filter.ensures
