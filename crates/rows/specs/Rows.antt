-- Rows over a text of names: the code that a name has, and what may be wrong with rows. Assumes nothing.
use Rattle.std.specs.Prelude.{ℕ, ◌+◌, Bool, true, false, cond, not, ◌&&◌, ◌||◌, List, [], ◌∷◌, length, take, drop, is_some, Some, None, Ok, Err, Option, Result, ◌==◌, nat_le, nat_lt}
use Rattle.std.specs.List.{find, list_all}
use Rattle.std.specs.Option.{option_map}
use Rattle.std.specs.Str.{bytes_eq}
use Rattle.text.specs.Cuts.{begins}
use Rattle.text.specs.declared.refusals.Refusal.{Refusal}
use Rattle.text.specs.declared.refusals.Refusal.TheVariants.{BadRow, NameTwice, HomeMissing}
use Rattle.flags.specs.Codes.{about, code_of, home}
use Rattle.flags.specs.declared.kinds.Code.{Code}
use Rattle.flags.specs.declared.kinds.Code.TheVariants.{Of}
use Rattle.flags.specs.declared.kinds.Kind.{Kind}
use Rattle.rows.specs.declared.rows.Row.{Row}

-- a row's name
abbrev pub name_of : List ℕ → Row → List ℕ
name_of text row = take row.length (drop row.offset text)

-- the first row with a name
abbrev pub row_at : List ℕ → List Row → List ℕ → Option Row
row_at text rows n = find (λ row. bytes_eq (name_of text row) n) rows

-- the number that the rows give a name, and the code with that number
abbrev pub number_at : List ℕ → List Row → List ℕ → Option ℕ
number_at text rows n = option_map (λ row. row.code) (row_at text rows n)

abbrev pub code_at : List ℕ → List Row → List ℕ → Option Code
code_at text rows n = elim (number_at text rows n) [ Some m ↦ code_of m | None ↦ None ]

-- a name of one byte is a short option, a longer one is a long option
abbrev pub short_code : List ℕ → List Row → ℕ → Option Code
short_code text rows b = code_at text rows (b ∷ [])

abbrev pub long_code : List ℕ → List Row → List ℕ → Option Code
long_code text rows n = cond (nat_le 2 (length n)) (code_at text rows n) None

-- What may be wrong with a row, 8.

-- 0x21 to 0x7e, and not `=`
abbrev pub name_byte : ℕ → Bool
name_byte b = nat_le 33 b && nat_le b 126 && not (b == 61)

-- a name has a byte, and does not begin with `-`
abbrev pub good_name : List ℕ → Bool
good_name n = nat_lt 0 (length n) && not (begins 45 n) && list_all name_byte n

abbrev pub inside : List ℕ → Row → Bool
inside text row = nat_le (row.offset + row.length) (length text)

abbrev pub good_row : List ℕ → Row → Bool
good_row text row = inside text row && good_name (name_of text row) && nat_le row.code 32

-- each row begins at or behind the end of the row before it, the first one at or behind a place
abbrev pub in_order : ℕ → List Row → Bool
in_order place [] = true
in_order place (row ∷ rows) = nat_le place row.offset && in_order (row.offset + row.length) rows

abbrev pub well_placed : List ℕ → List Row → Bool
well_placed text rows = nat_le (length rows) 256 && in_order 0 rows && list_all (good_row text) rows

-- Two rows with one name, 9.

abbrev pub names_twice : List ℕ → List Row → Bool
names_twice text [] = false
names_twice text (row ∷ rows) = is_some (number_at text rows (name_of text row)) || names_twice text rows

-- A home spelling that is missing, or has another code, 10.

-- a spelling without a dash in front
abbrev pub undashed : List ℕ → List ℕ
undashed bs = cond (begins 45 bs) (drop 1 bs) bs

-- the name in a kind's home spelling, which has one dash or two
abbrev pub home_name : Kind → List ℕ
home_name kind = undashed (undashed (home kind))

abbrev pub is_number : Option ℕ → ℕ → Bool
is_number None n = false
is_number (Some m) n = m == n

-- the rows give the name in the kind's home spelling the kind's own code
abbrev pub has_home : List ℕ → List Row → Kind → Bool
has_home text rows kind = is_number (number_at text rows (home_name kind)) (about (Of kind)).number

-- the kind that a row's code makes
abbrev pub row_home : List ℕ → List Row → Row → Bool
row_home text rows row = elim (code_of row.code) [ Some c ↦ has_home text rows (about c).makes | None ↦ false ]

abbrev pub homes : List ℕ → List Row → Bool
homes text rows = list_all (row_home text rows) rows

-- What the check answers.

abbrev pub verdict : List ℕ → List Row → Result (Unit {0}) Refusal
verdict text rows =
    cond (not (well_placed text rows)) (Err BadRow)
    (cond (names_twice text rows) (Err NameTwice)
    (cond (not (homes text rows)) (Err HomeMissing) (Ok tt)))
