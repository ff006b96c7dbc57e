use Rattle.std.proofs.Common.{◌∙◌, rules}
use Rattle.reading.specs.Left.{first_from}
use Rattle.reader.proofs.Arguing.{long_owed_next}
use Rattle.reader.proofs.Turning.{tells_by, alone_takes}
use Rattle.reader.proofs.turns.alone.Goals as goal

pub returns-in-None-bare_flag-clause-tells : goal.returns-in-None-bare_flag-clause-tells
returns-in-None-bare_flag-clause-tells g c =
    let o = g.T.Table.means c.args.table.now in
    λ args later w less. tells_by o _ w _ _ _ (alone_takes args (λ t. first_from o t args) c.in-Some.code (search rules) (o.long c.args.name.now) (search rules) ∙ long_owed_next o c.in-Some.code c.args.behind.text.now c.args.behind.at args later) (c.takes_next.ensures.tells o w less)
