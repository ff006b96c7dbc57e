-- The digits of one more byte. Assumes nothing.
use Rattle.std.proofs.Common.{◌≡◌, ◌≢◌, ℕ, ◌-◌, ◌<◌, ◌/◌, ◌%◌, ◌≤◌, List, [], ◌∷◌, ◌++◌, length, take, drop, get_or, refl, sym, ap, ◌∙◌, arith}
use Rattle.std.proofs.Math.Seq.{take-length}
use Rattle.std.specs.Char.{digit_char}
use Rattle.std.specs.List.{AllByRecursion}
use Rattle.hexadecimal.specs.Digits.{digits_of, OfBytes}

digits_behind : (bs : List ℕ) (b high low : ℕ) (rest : List ℕ) → high ≡ digit_char (b / 16) → low ≡ digit_char (b % 16) → digits_of bs ++ (high ∷ low ∷ rest) ≡ digits_of (bs ++ (b ∷ [])) ++ rest
digits_behind [] b high low rest h l = cc
digits_behind (x ∷ bs) b high low rest h l = ap (λ ds. digit_char (x / 16) ∷ digit_char (x % 16) ∷ ds) (digits_behind bs b high low rest h l)

two_fewer : (x y : ℕ) (rest : List ℕ) → take (length (x ∷ y ∷ rest) - 2) rest ≡ rest
two_fewer x y rest = let e : length (x ∷ y ∷ rest) - 2 ≡ length rest = omega arith in rw e (take-length rest)

-- two digits of those that are left are read
pub digits_read : (digits bs rest new : List ℕ) (b : ℕ) → digits ≡ digits_of bs ++ rest → 2 ≤ length rest → get_or rest 0 0 ≡ digit_char (b / 16) → get_or rest 1 0 ≡ digit_char (b % 16) → new ≡ bs ++ (b ∷ []) → digits ≡ digits_of new ++ take (length rest - 2) (drop 2 rest)
digits_read digits bs [] new b e two h l is = absurd (omega arith)
digits_read digits bs (x ∷ []) new b e two h l is = absurd (omega arith)
digits_read digits bs (x ∷ y ∷ rest) new b e two h l is = rw is (e ∙ (digits_behind bs b x y rest h l ∙ ap (λ ds. digits_of (bs ++ (b ∷ [])) ++ ds) (sym (two_fewer x y rest))))

-- what is behind two digits of bytes are digits of bytes
behind_pair : (x y : ℕ) (rest bs : List ℕ) → AllByRecursion (λ b. b < 256) bs → x ∷ y ∷ rest ≡ digits_of bs → OfBytes rest
behind_pair x y rest [] fit e = cc
behind_pair x y rest (b ∷ bs) fit e = record { bytes = bs; fit = fit.1; same = cc }

pub left_over : (rest : List ℕ) → 2 ≤ length rest → OfBytes rest → OfBytes (take (length rest - 2) (drop 2 rest))
left_over [] two o = absurd (omega arith)
left_over (x ∷ []) two o = absurd (omega arith)
left_over (x ∷ y ∷ rest) two o = rw (two_fewer x y rest) (behind_pair x y rest o.bytes o.fit o.same)

first_pair : (x y : ℕ) (rest bs : List ℕ) → ((b : ℕ) → b < 256 → x ≡ digit_char (b / 16) → y ≢ digit_char (b % 16)) → AllByRecursion (λ b. b < 256) bs → x ∷ y ∷ rest ≡ digits_of bs → ⊥
first_pair x y rest [] other fit e = cc
first_pair x y rest (b ∷ bs) other fit e = let high : x ≡ digit_char (b / 16) = cc in let low : y ≡ digit_char (b % 16) = cc in other b fit.0 high low

pub no_pair : (rest : List ℕ) → 2 ≤ length rest → ((b : ℕ) → b < 256 → get_or rest 0 0 ≡ digit_char (b / 16) → get_or rest 1 0 ≢ digit_char (b % 16)) → OfBytes rest → ⊥
no_pair [] two other o = absurd (omega arith)
no_pair (x ∷ []) two other o = absurd (omega arith)
no_pair (x ∷ y ∷ rest) two other o = first_pair x y rest o.bytes other o.fit o.same

single_digit : (x : ℕ) (bs : List ℕ) → x ∷ [] ≡ digits_of bs → ⊥
single_digit x [] e = cc
single_digit x (b ∷ bs) e = cc

pub no_single : (rest : List ℕ) → length rest < 2 → rest ≢ [] → OfBytes rest → ⊥
no_single [] short some o = some refl
no_single (x ∷ []) short some o = single_digit x o.bytes o.same
no_single (x ∷ y ∷ rest) short some o = absurd (omega arith)
