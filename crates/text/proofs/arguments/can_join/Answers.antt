use Rattle.std.proofs.Common.{◌≡◌, not, map, rules, tests}
use Rattle.std.specs.List.{list_all}
use Rattle.std.proofs.lemmas.Iterator.{YieldsList-from_slice}
use Rattle.std.proofs.lemmas.Iterator.Search.{all_from_yields_List}
use Rattle.text.specs.Arguments.{separator, LoneEmpty}
use Rattle.text.specs.Cuts.{holds}
use Rattle.text.proofs.Joining.{lone_length, lone_first, joins_told}
use Rattle.text.proofs.arguments.can_join.Goals as goal

pub returns-then-not-lone_empty : goal.returns-then-not-lone_empty
returns-then-not-lone_empty c =
    let list = c.args.list.now in
    let told : c.all.result ≡ list_all (λ x. not (holds separator x.now)) list = all_from_yields_List _ _ _ _ c.all.ensures.ran (YieldsList-from_slice list cc) (λ x r q k. search (rules, tests)) in
    let more : LoneEmpty (map (λ x. x.now) list) → ⊥ = λ lone. let one = lone_length list lone in let first = lone_first list lone in search rules in
    let all' = joins_told list _ told more in
    record { carried = all'.0; back = all'.1 }
