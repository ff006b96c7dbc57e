-- What a sink for letters answers to a byte too many. Assumes nothing.
use Rattle.std.proofs.Common.{◌≡◌, ℕ, ◌+◌, ◌<◌, List, [], ◌∷◌, length, Some, None, Option, refl, arith}
use Rattle.std.specs.Option.{option_to_list}
use Rattle.text.specs.declared.refusals.Refusal.TheVariants.{CannotCarry}
use Rattle.sinks.specs.Sinks.{write_told}
use Rattle.strangers.specs.Letters.{rules_at}

pub one_too_many : (n : ℕ) (list : List (List ℕ)) (byte : Option ℕ) (bytes : List ℕ) → 0 < length bytes → 1 < length (option_to_list byte) + length bytes → Some CannotCarry ≡ write_told (rules_at n) (record { list = list; pending = Some (option_to_list byte) }) bytes
one_too_many n list byte [] some many = absurd (omega arith)
one_too_many n list (Some x) (b ∷ bytes) some many = refl
one_too_many n list None (b ∷ []) some many = absurd (omega arith)
one_too_many n list None (b ∷ c ∷ bytes) some many = refl
