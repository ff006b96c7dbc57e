-- Bytes as a person reads them. Assumes nothing.
use Rattle.std.specs.Prelude.{ℕ, ◌/◌, ◌%◌, Bool, cond, ◌&&◌, ◌||◌, List, [], ◌∷◌, ◌++◌, ◌==◌, nat_le}
use Rattle.std.specs.List.{flat_map}
use Rattle.std.specs.Char.{digit_char}

-- printable ASCII stands for itself, but the backslash, which begins an escape, and one more byte, the mark, have a backslash before them
abbrev pub printable : ℕ → Bool
printable b = nat_le 32 b && nat_le b 126

abbrev pub escaped_byte : ℕ → ℕ → List ℕ
escaped_byte mark b =
    cond (b == 92 || b == mark) (92 ∷ b ∷ [])
    (cond (printable b) (b ∷ []) (92 ∷ 120 ∷ digit_char (b / 16) ∷ digit_char (b % 16) ∷ []))

-- no mark but the backslash
abbrev pub escaped : List ℕ → List ℕ
escaped bs = flat_map (escaped_byte 92) bs

-- in double quotes, which are the mark then
abbrev pub quoted : List ℕ → List ℕ
quoted bs = (34 ∷ []) ++ (flat_map (escaped_byte 34) bs ++ (34 ∷ []))
