use Rattle.std.proofs.Common.{rules}
use Rattle.text.proofs.Shaping.{edge_long, edge_short, form_long, form_short}
use Rattle.text.proofs.shapes.shape_of.Goals as goal

pub returns-in-45-3 : goal.returns-in-45-3
returns-in-45-3 c = search (rules, form_long, edge_long)

pub returns-in-45-4 : goal.returns-in-45-4
returns-in-45-4 c = record { shape = search (rules, form_short); edge = edge_short _ (search rules) (search rules) }
