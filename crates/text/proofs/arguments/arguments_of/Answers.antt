use Rattle.std.proofs.Common.{◌≡◌, length, sym, ap, subst, rules, arith}
use Rattle.text.specs.Arguments.{arguments, left, ArgumentsAtEdges}
use Rattle.text.proofs.Joining.{arguments_few}
use Rattle.text.proofs.Walking.{arguments_at_edges}
use Rattle.text.proofs.arguments.arguments_of.Goals as goal

pub returns : goal.returns
returns c =
    let text = c.args.text.now in
    let items : left (record { rest = c.then_some.result }) ≡ arguments text = search rules in
    record { items = items; few = omega (arith, arguments_few text, ap length items); edges = subst (ArgumentsAtEdges text 0) (sym items) (arguments_at_edges text) }
