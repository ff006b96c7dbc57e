use Rattle.std.proofs.Common.{refl, arith}
use Rattle.reader.proofs.Arguing.{argument_there, place_bounds}
use Rattle.reader.proofs.ArgumentEdges.{piece_on_edges}
use Rattle.reader.proofs.place.Place.argument.Goals as goal

pub invariant_of-result : goal.invariant_of-result
invariant_of-result c =
    let bounds = place_bounds c.args.self.text.now c.args.self.at c.args.self.within in
    record { within = omega (arith, bounds.1, c.piece_at-behind.ensures.behind) }

pub returns-clause-there : goal.returns-clause-there
returns-clause-there c = argument_there c.args.self.text.now c.args.self.at c.args.self.within _ c.piece_at-behind.ensures.piece refl c.piece_at-behind.ensures.behind refl

pub returns-clause-edges : goal.returns-clause-edges
returns-clause-edges c =
    let self = c.args.self in
    let is = c.piece_at-behind.ensures in
    record { kept = λ edge. piece_on_edges self.text.now _ self.at edge refl is.piece is.behind }
