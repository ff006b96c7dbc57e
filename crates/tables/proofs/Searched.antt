-- A search in options is a search in the rows that they stand for. Assumes nothing.
use Rattle.std.proofs.Common.{◌≡◌, ℕ, true, false, cond, List, [], ◌∷◌, map, Some, None, Option, refl, ap, ◌∙◌}
use Rattle.std.specs.Borrow.{Bor}
use Rattle.std.specs.List.{find}
use Rattle.std.specs.Option.{option_map}
use Rattle.std.specs.Str.{bytes_eq}
use Rattle.flags.specs.declared.kinds.Code.TheVariants.{Of}
use Rattle.flags.specs.declared.kinds.Kind.{Kind}
use Rattle.tables.specs.Rustc.{row, code_in}

abbrev LongOption : Type 0
LongOption = Bor (List ℕ) × Kind

module _ (n : List ℕ) where
  code_found : (options : List LongOption) → option_map (λ o. Of o.1) (find (λ o. bytes_eq o.0.now n) options) ≡ code_in (map (λ o. row o.0.now (Of o.1)) options) n
  code_found [] = refl
  code_found (o ∷ options) = elim (bytes_eq o.0.now n) as (λ b. option_map (λ (p : LongOption). Of p.1) (cond b (Some o) (find (λ p. bytes_eq p.0.now n) options)) ≡ option_map (λ r. r.code) (cond b (Some (row o.0.now (Of o.1))) (find (λ r. bytes_eq r.name n) (map (λ p. row p.0.now (Of p.1)) options)))) [ true ↦ refl | false ↦ code_found options ]

  read_once : (found : Option (Bor LongOption)) → option_map (λ x. Of x.now.1) found ≡ option_map (λ o. Of o.1) (option_map (λ x. x.now) found)
  read_once None = refl
  read_once (Some x) = refl

  -- what `find` answered, and `map` made of it
  pub code_of_found : (options : List LongOption) (found : Option (Bor LongOption)) → option_map (λ x. x.now) found ≡ find (λ o. bytes_eq o.0.now n) options → option_map (λ x. Of x.now.1) found ≡ code_in (map (λ o. row o.0.now (Of o.1)) options) n
  code_of_found options found e = read_once found ∙ ap (option_map (λ o. Of o.1)) e ∙ code_found options
