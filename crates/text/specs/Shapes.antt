-- What an argument looks like by its first two bytes. Assumes nothing.
use Rattle.std.specs.Prelude.{ℕ, ◌-◌, cond, List, [], ◌∷◌, length, ◌==◌}
use Rattle.text.specs.Edges.{Edge}
use Rattle.text.specs.declared.shapes.Shape.{Shape}
use Rattle.text.specs.declared.shapes.Shape.TheVariants.{Empty, Dash, DoubleDash, Long, Short, Plain}

abbrev pub dash : ℕ
dash = 45

-- a shape with the bytes behind the dashes
pub data Form : Type 0 where
  empty : Form
  single : Form
  double : Form
  long : List ℕ → Form
  short : List ℕ → Form
  plain : Form

abbrev pub behind_two : List ℕ → Form
behind_two [] = double
behind_two (x ∷ xs) = long (x ∷ xs)

abbrev pub behind_one : List ℕ → Form
behind_one [] = single
behind_one (x ∷ xs) = cond (x == dash) (behind_two xs) (short (x ∷ xs))

abbrev pub form_of : List ℕ → Form
form_of [] = empty
form_of (x ∷ xs) = cond (x == dash) (behind_one xs) plain

-- the form that a value of the program stands for
abbrev pub form : Shape → Form
form Empty = empty
form Dash = single
form DoubleDash = double
form (Long name) = long name.now
form (Short letters) = short letters.now
form Plain = plain

-- what stands behind the dashes begins at an edge
abbrev pub BeginsAtEdge : List ℕ → Form → Type 0
BeginsAtEdge bs empty = Unit {0}
BeginsAtEdge bs single = Unit {0}
BeginsAtEdge bs double = Unit {0}
BeginsAtEdge bs (long name) = Edge bs (length bs - length name)
BeginsAtEdge bs (short letters) = Edge bs (length bs - length letters)
BeginsAtEdge bs plain = Unit {0}
