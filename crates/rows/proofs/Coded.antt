-- The number of the last code. Assumes nothing.
use Rattle.std.proofs.Common.{◌≡◌, ℕ, ◌<◌, ◌≤◌, leb, length, is_some, sym, ap, ◌∙◌, arith, ⊎_elim}
use Rattle.std.proofs.lemmas.Option.{slice_get_cases}
use Rattle.std.proofs.lemmas.Bool.{le-leb}
use Rattle.std.proofs.lemmas.Bool.Decides.{nat_tests}
use Rattle.flags.specs.Codes.{all_codes, code_of}

pub is_code : (n : ℕ) → is_some (code_of n) ≡ leb n 32
is_code n = ⊎_elim
    (λ there. ap is_some there.2 ∙ sym (le-leb n 32 (let low : n < length all_codes = there.1 in omega arith)))
    (λ past. ap is_some past.1 ∙ (let high : length all_codes ≤ n = past.0 in grind (arith, nat_tests)))
    (slice_get_cases all_codes n).1
