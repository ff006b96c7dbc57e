use Rattle.std.proofs.Common.{◌∙◌, rules}
use Rattle.reading.specs.Left.{first_from}
use Rattle.reader.proofs.Taking.{taken_at}
use Rattle.reader.proofs.Turning.{tells_by, equipped_takes}
use Rattle.reader.proofs.turns.equipped.Goals as goal

pub returns-in-None-bare_flag-clause-tells : goal.returns-in-None-bare_flag-clause-tells
returns-in-None-bare_flag-clause-tells g c =
    let o = g.T.Table.means c.args.table.now in
    λ text args is w less. tells_by o _ w _ _ _ (equipped_takes args (λ t. first_from o t args) c.in-Some.code (search rules) (o.long c.args.name.now) _ (search rules) ∙ taken_at o c.in-Some.code text c.args.argument args is) (c.taken.ensures.tells.told o text is.part w less)
