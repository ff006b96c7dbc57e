use Rattle.std.proofs.Common.{◌≡◌, Some, drop, ap, ◌∙◌, subst, lit<, arith, rules}
use Rattle.text.specs.Arguments.{pieces}
use Rattle.text.specs.Cuts.{cut_first}
use Rattle.text.proofs.Cutting.{cut_first_shorter}
use Rattle.reading.specs.Left.{behind as behind_of, first_from, first_alone}
use Rattle.reader.specs.Turns.{TellsFrom}
use Rattle.reader.proofs.Arguing.{argument_cut}
use Rattle.reader.proofs.Turning.{tells_by, long_equipped, long_alone}
use Rattle.reader.proofs.TurnEdges.{turns_behind, turns_cut}
use Rattle.reader.proofs.turns.long_turn.Goals as goal

pub last-requires : goal.last-requires
last-requires g c = omega (arith, cut_first_shorter 61 c.args.body.bytes.now (c.in-Some.name.now, c.in-Some.bytes.now) (search rules))

pub returns-in-Some-clause-tells : goal.returns-in-Some-clause-tells
returns-in-Some-clause-tells g c =
    let o = g.T.Table.means c.args.table.now in
    let argument = c.last.result in
    let cut : Some (c.in-Some.name.now, argument.bytes.now) ≡ cut_first 61 c.args.body.bytes.now = ap (λ l. Some (c.in-Some.name.now, l)) c.last.ensures.bytes ∙ c.in-Some.ensures.halves in
    λ text args is w less. tells_by o text w _ _ _ (long_equipped args (λ t. first_from o t args) o c.args.body.bytes.now (c.in-Some.name.now, argument.bytes.now) cut) (c.equipped.ensures.tells text args (argument_cut text c.args.body argument 61 c.in-Some.name.now args cut c.last.ensures.end c.last.ensures.behind is) w (search (rules, less, c.last.ensures.behind)))

pub returns-in-None-clause-tells : goal.returns-in-None-clause-tells
returns-in-None-clause-tells g c =
    let o = g.T.Table.means c.args.table.now in
    let behind = c.args.body.behind in
    λ text args is w less.
    let same = is.part.same_text in
    let here : pieces 31 (drop behind.at behind.text.now) ≡ behind_of args = ap (λ t. pieces 31 (drop behind.at t)) same ∙ is.later in
    tells_by o text w _ _ _ (long_alone args (λ t. first_from o t args) o c.args.body.bytes.now (search rules)) (subst (λ t. TellsFrom o t behind.at (first_alone args (λ t'. first_from o t' args) (o.long c.args.body.bytes.now)) c.alone.result) same (c.alone.ensures.tells args here) w less)

pub returns-in-None-clause-edges : goal.returns-in-None-clause-edges
returns-in-None-clause-edges g c = turns_behind c.args.body c.alone.result c.alone.ensures.edges

pub returns-in-Some-clause-edges : goal.returns-in-Some-clause-edges
returns-in-Some-clause-edges g c =
    let cut : Some (c.in-Some.name.now, c.last.result.bytes.now) ≡ cut_first 61 c.args.body.bytes.now = ap (λ l. Some (c.in-Some.name.now, l)) c.last.ensures.bytes ∙ c.in-Some.ensures.halves in
    turns_cut c.args.body c.last.result c.equipped.result c.last.ensures.end c.last.ensures.behind c.equipped.ensures.edges 61 _ (lit< tt) cut
