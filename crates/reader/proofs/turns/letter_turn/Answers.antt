use Rattle.std.proofs.Common.{arith, rules}
use Rattle.text.specs.Arguments.{piece_at}
use Rattle.reading.specs.Left.{first_from}
use Rattle.reader.specs.Cursors.{args_behind}
use Rattle.reader.proofs.Arguing.{place_bounds}
use Rattle.reader.proofs.Turning.{tells_by, letter_takes, letter_unknown}
use Rattle.reader.proofs.turns.letter_turn.Goals as goal

pub returns-in-None-bare_flag-clause-tells : goal.returns-in-None-bare_flag-clause-tells
returns-in-None-bare_flag-clause-tells g c =
    let o = g.T.Table.means c.args.table.now in
    let args = args_behind c.args.here.text.now c.args.here.at in
    λ w less. tells_by o _ w _ _ _ (letter_takes args (λ t. first_from o t args) (piece_at 31 c.args.here.text.now c.args.here.at) c.in-Some.code (o.short c.args.letter) (search rules) (search rules)) (c.takes_rest.ensures.tells o w less)

pub returns-in-None-clause-tells : goal.returns-in-None-clause-tells
returns-in-None-clause-tells g c =
    let o = g.T.Table.means c.args.table.now in
    let text = c.args.here.text.now in
    let at = c.args.here.at in
    let args = args_behind text at in
    let bounds = place_bounds text at c.args.here.within in
    λ w less. tells_by o _ w _ _ _ (letter_unknown args (λ t. first_from o t args) (piece_at 31 text at) (o.short c.args.letter) (search rules)) (c.skipped.ensures.tells o w (omega (arith, bounds.0)))
