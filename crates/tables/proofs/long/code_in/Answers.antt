use Rattle.std.proofs.Common.{rules, tests, ◌≡◌, ◌∙◌}
use Rattle.std.specs.Option.{option_map}
use Rattle.std.specs.Str.{bytes_eq}
use Rattle.std.proofs.lemmas.Iterator.{YieldsList-from_slice}
use Rattle.std.proofs.lemmas.Iterator.Search.{find_from_yields_List}
use Rattle.flags.specs.declared.kinds.Code.TheVariants.{Of}
use Rattle.tables.proofs.Searched.{code_of_found}
use Rattle.tables.proofs.long.code_in.Goals as goal

pub returns : goal.returns
returns c =
    let found = find_from_yields_List (λ o. bytes_eq o.0.now c.args.name.now) _ _ c.find.result c.find.ensures.ran (YieldsList-from_slice c.args.options.now cc) (λ x b q k. search (rules, tests)) in
    let mapped : c.map.result ≡ option_map (λ x. Of x.now.1) c.find.result = search rules in
    mapped ∙ code_of_found c.args.name.now c.args.options.now c.find.result found
