use Rattle.std.proofs.Common.{[], ◌∷◌, ◌≡◌, ◌-◌, ◌∙◌, length, lit<, refl, subst, sym, ap, arith, rules}
use Rattle.text.specs.Edges.{Edge}
use Rattle.text.specs.Shapes.{long, form}
use Rattle.reading.specs.Left.{first_from, first_long}
use Rattle.reader.specs.Cursors.{args_behind}
use Rattle.reader.proofs.Arguing.{argument_end, place_later}
use Rattle.reader.proofs.Shaped.{between_first, cluster_first, nothing_in, passed_first, ended_first, long_is}
use Rattle.reader.proofs.Turning.{tells_by}
use Rattle.reader.proofs.TurnEdges.{passes_in, turns_end}
use Rattle.reader.proofs.turns.option_turn.Goals as goal

pub returns-in-Long-clause-tells : goal.returns-in-Long-clause-tells
returns-in-Long-clause-tells g c =
    let o = g.T.Table.means c.args.table.now in
    let text = c.args.here.text.now in
    let at = c.args.here.at in
    let a = c.argument-argument.result.bytes.now in
    let body = c.in-Long.bytes.now in
    let later = place_later text at (search rules) in
    let args = args_behind text at in
    let is = c.argument-argument.ensures in
    let last = c.last.ensures in
    let of-body = argument_end text (45 ∷ 45 ∷ []) c.argument-argument.result c.last.result args (long_is a body (search rules) ∙ ap (λ l. 45 ∷ 45 ∷ l) (sym last.bytes)) last.end last.behind is.there in
    let behind : c.last.result.behind.at ≡ c.argument-argument.result.behind.at = ap (λ p. p.at) last.behind in
    tells_by o text _ _ _ _ (between_first o text at a (long body) (search rules) (search rules) ∙ ap (λ l. first_long args (λ t. first_from o t args) o l) (sym last.bytes)) (c.long_turn.ensures.tells text args of-body _ (omega (arith, later, is.behind, behind)))

pub returns-in-Short-clause-tells : goal.returns-in-Short-clause-tells
returns-in-Short-clause-tells g c =
    let o = g.T.Table.means c.args.table.now in
    (cluster_first o c.args.here.text.now c.args.here.at (search rules) c.argument-argument.result.bytes.now c.in-Short.field-0.now (search rules) (search rules), search rules)

pub returns-in-DoubleDash-clause-tells : goal.returns-in-DoubleDash-clause-tells
returns-in-DoubleDash-clause-tells g c = ended_first (g.T.Table.means c.args.table.now) c.args.here.text.now c.args.here.at c.argument-argument.result.bytes.now (search rules) (search rules)

pub returns-in-Empty-clause-tells : goal.returns-in-Empty-clause-tells
returns-in-Empty-clause-tells g c =
    let o = g.T.Table.means c.args.table.now in
    let text = c.args.here.text.now in
    let at = c.args.here.at in
    let args = args_behind text at in
    let later = place_later text at c.requires.within in
    let is = c.argument-argument.ensures in
    let nothing = nothing_in o args (λ t. first_from o t args) c.shape_of.result c.in-Empty.is in
    rw c.between.ensures (passed_first o text at _ _ (form c.shape_of.result) is.piece is.behind c.shape_of.ensures.shape nothing, omega (arith, later, is.behind))

pub returns-in-Long-clause-edges : goal.returns-in-Long-clause-edges
returns-in-Long-clause-edges g c =
    let a = c.argument-argument.result in
    let last = c.last.ensures in
    let edge = subst (λ l. Edge a.bytes.now (length a.bytes.now - length l)) (sym last.bytes) c.in-Long.ensures.edge in
    let whole = long_is a.bytes.now c.in-Long.bytes.now (search rules) ∙ ap (λ l. 45 ∷ 45 ∷ l) (sym last.bytes) in
    let over = turns_end a c.last.result c.long_turn.result last.end last.behind c.long_turn.ensures.edges (45 ∷ 45 ∷ []) whole edge in
    record { kept = λ here. over.kept _ c.argument-argument.ensures.there.part (c.argument-argument.ensures.edges.kept here) }

pub returns-in-Short-clause-edges : goal.returns-in-Short-clause-edges
returns-in-Short-clause-edges g c = passes_in c.args.here 45 c.requires (lit< tt) _ refl refl
