-- Escapes are ASCII, and so text. Assumes nothing.
use Rattle.std.proofs.Common.{◌≡◌, ℕ, zero, suc, ◌/◌, ◌%◌, ◌<◌, Bool, true, false, cond, ◌||◌, eqb, [], ◌∷◌, refl, arith}
use Rattle.std.specs.Char.{digit_char}
use Rattle.std.specs.Str.{IsAscii}
use Rattle.std.proofs.lemmas.Bool.Decides.{nat_tests}
use Rattle.std.proofs.lemmas.Str.{IsAscii-append}
use Rattle.escape.specs.Escaped.{printable, escaped_byte}

one : (b : ℕ) → b < 128 → IsAscii (b ∷ [])
one b h zero = h
one b h (suc i) = omega arith

digit : (d : ℕ) → d < 16 → digit_char d < 128
digit d h = grind (arith, nat_tests)

pub ascii_escape : (mark b : ℕ) → mark < 128 → b < 256 → IsAscii (escaped_byte mark b)
ascii_escape mark b m fits = by (eqb b 92 || eqb b mark) refl (printable b) refl
  where
    by : (t : Bool) → (eqb b 92 || eqb b mark) ≡ t → (p : Bool) → printable b ≡ p → IsAscii (cond t (92 ∷ b ∷ []) (cond p (b ∷ []) (92 ∷ 120 ∷ digit_char (b / 16) ∷ digit_char (b % 16) ∷ [])))
    by true e p f = IsAscii-append (92 ∷ []) (b ∷ []) (one 92 (omega arith)) (one b (grind (arith, nat_tests)))
    by false e true f = one b (grind (arith, nat_tests))
    by false e false f =
        let low = one (digit_char (b % 16)) (digit (b % 16) (omega arith)) in
        let digits = IsAscii-append (digit_char (b / 16) ∷ []) (digit_char (b % 16) ∷ []) (one (digit_char (b / 16)) (digit (b / 16) (omega arith))) low in
        IsAscii-append (92 ∷ []) (120 ∷ digit_char (b / 16) ∷ digit_char (b % 16) ∷ []) (one 92 (omega arith)) (IsAscii-append (120 ∷ []) (digit_char (b / 16) ∷ digit_char (b % 16) ∷ []) (one 120 (omega arith)) digits)
