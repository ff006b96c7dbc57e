use Rattle.std.proofs.Common.{◌∙◌, sym, ap, arith}
use Rattle.reading.specs.Reading.{free}
use Rattle.reading.specs.Left.{first_from, first_taken}
use Rattle.reader.specs.Cursors.{args_behind}
use Rattle.reader.proofs.Arguing.{place_bounds}
use Rattle.reader.proofs.Taking.{taken_at}
use Rattle.reader.proofs.Turning.{tells_by}
use Rattle.reader.proofs.turns.takes_next.Goals as goal

pub returns-clause-tells : goal.returns-clause-tells
returns-clause-tells c =
    let text = c.args.here.text.now in
    let args = args_behind text c.args.here.at in
    let is = c.argument.ensures.there in
    let bounds = place_bounds text c.args.here.at c.args.here.within in
    λ o w less. tells_by o _ w _ _ _ (ap (λ a. first_taken c.args.code a args (first_from o free args)) (sym c.argument.ensures.piece) ∙ taken_at o c.args.code text c.argument.result args is) (c.taken.ensures.tells.told o text is.part w (omega (arith, bounds.0, c.argument.ensures.behind)))

pub returns-clause-edges : goal.returns-clause-edges
returns-clause-edges c = record { kept = λ edge. c.taken.ensures.edges.kept _ c.argument.ensures.there.part (c.argument.ensures.edges.kept edge) }
