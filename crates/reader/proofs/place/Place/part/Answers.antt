use Rattle.std.proofs.Common.{refl, arith}
use Rattle.std.proofs.lemmas.Grind.{common_steps}
use Rattle.reader.proofs.ArgumentEdges.{part_on_edges}
use Rattle.reader.proofs.place.Place.part.Goals as goal

pub returns-clause-edges : goal.returns-clause-edges
returns-clause-edges c = λ last.
    let self = c.args.self in
    record { kept = λ edge. part_on_edges self.text.now _ self.at edge refl c.args.most (grind (arith, common_steps)) refl last }
