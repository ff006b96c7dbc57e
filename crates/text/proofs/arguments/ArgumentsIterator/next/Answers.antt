use Rattle.std.proofs.Common.{◌≡◌, [], ◌∷◌, sym, rules}
use Rattle.text.specs.Arguments.{separator, pieces}
use Rattle.text.proofs.Walking.{pieces_split, pieces_uncut}
use Rattle.text.proofs.arguments.ArgumentsIterator.next.Goals as goal

pub returns-in_default : goal.returns-in_default
returns-in_default c =
    let rest = c.in_ok-rest.rest.now in
    let step : pieces separator rest ≡ rest ∷ [] = pieces_uncut separator rest (sym c.in_default.ensures.halves) in
    record { steps = search (rules, step); goes = search (rules, step) }

pub returns : goal.returns
returns c =
    let rest = c.in_ok-rest.rest.now in
    let step : pieces separator rest ≡ c.in-Some.argument.now ∷ pieces separator c.in-Some.behind.now = pieces_split separator rest (c.in-Some.argument.now, c.in-Some.behind.now) (sym c.in-Some.ensures.halves) in
    record { steps = search (rules, step); goes = search (rules, step) }
