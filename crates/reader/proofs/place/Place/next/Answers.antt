use Rattle.reader.proofs.ArgumentEdges.{edge_next}
use Rattle.reader.proofs.place.Place.next.Goals as goal

pub returns-clause-edge : goal.returns-clause-edge
returns-clause-edge c = edge_next c.args.self.text.now c.args.self.at c.requires.inside c.requires.ascii
