-- A name that is longer than each row's is no row's. Assumes nothing.
use Rattle.std.proofs.Common.{◌≡◌, ℕ, ◌<◌, ◌≤◌, List, [], ◌∷◌, length, Some, None, refl, ap, ◌∙◌, ⊎_elim, arith, rules}
use Rattle.std.specs.List.{AllByRecursion, find}
use Rattle.std.specs.Option.{option_map}
use Rattle.std.specs.Str.{bytes_eq}
use Rattle.std.proofs.lemmas.Slice.Eq.{bytes_eq-Decides}
use Rattle.std.proofs.lemmas.Bool.{cases_Bool, cond-false}
use Rattle.tables.specs.Rustc.{Spelling, long_options, code_in}

module _ (most : ℕ) (n : List ℕ) (longer : most < length n) where
  not_found : (rows : List Spelling) → AllByRecursion (λ r. length r.name ≤ most) rows → code_in rows n ≡ None
  not_found [] short = refl
  not_found (r ∷ rows) short = ⊎_elim
      (λ t. let same : length r.name ≡ length n = ap length ((bytes_eq-Decides r.name n).0 t) in let low : length r.name ≤ most = short.0 in absurd (omega arith))
      (λ t. ap (option_map (λ s. s.code)) (cond-false _ (Some r) (find (λ s. bytes_eq s.name n) rows) t) ∙ not_found rows short.1)
      (cases_Bool (bytes_eq r.name n))

each_short : AllByRecursion (λ r. length r.name ≤ 17) long_options
each_short = search rules

pub no_longer : (n : List ℕ) → 17 < length n → code_in long_options n ≡ None
no_longer n longer = not_found 17 n longer long_options each_short
