-- A text and its arguments: the encoding of CARGO_ENCODED_RUSTFLAGS in the Cargo book. Assumes nothing.
use Rattle.std.specs.Prelude.{◌≡◌, ℕ, ◌+◌, ◌≤◌, false, cond, List, [], ◌∷◌, ◌++◌, length, drop, Some, None, ◌==◌}
use Rattle.std.specs.List.{AllByRecursion}
use Rattle.text.specs.Cuts.{holds, cut_first}
use Rattle.text.specs.Edges.{Edge}
use Rattle.text.specs.declared.arguments.Arguments.{Arguments}

-- 0x1f, the unit separator of ASCII
abbrev pub separator : ℕ
separator = 31

-- a text has at most so many bytes
abbrev pub longest_text : ℕ
longest_text = 65535

abbrev pub onto_first : ℕ → List (List ℕ) → List (List ℕ)
onto_first x [] = (x ∷ []) ∷ []
onto_first x (p ∷ ps) = (x ∷ p) ∷ ps

-- cut at each b: one piece more than there are b's
abbrev pub pieces : ℕ → List ℕ → List (List ℕ)
pieces b [] = [] ∷ []
pieces b (x ∷ xs) = cond (x == b) ([] ∷ pieces b xs) (onto_first x (pieces b xs))

-- the empty text has no arguments
abbrev pub arguments : List ℕ → List (List ℕ)
arguments [] = []
arguments (x ∷ xs) = pieces separator (x ∷ xs)

-- the arguments that an iterator has not given yet
abbrev pub left : Arguments → List (List ℕ)
left i = elim i.rest [ Some rest ↦ pieces separator rest.now | None ↦ [] ]

-- the parts with b between each two
abbrev pub joined_by : ℕ → List (List ℕ) → List ℕ
joined_by b [] = []
joined_by b (p ∷ []) = p
joined_by b (p ∷ q ∷ ps) = p ++ b ∷ joined_by b (q ∷ ps)

abbrev pub join : List (List ℕ) → List ℕ
join list = joined_by separator list

-- the piece that begins at a place: up to the next b, or to the end
abbrev pub piece_at : ℕ → List ℕ → ℕ → List ℕ
piece_at b bs at = elim (cut_first b (drop at bs)) [ Some p ↦ p.0 | None ↦ drop at bs ]

-- the place behind that piece and its b, or the end
abbrev pub place_behind : ℕ → List ℕ → ℕ → ℕ
place_behind b bs at = elim (cut_first b (drop at bs)) [ Some p ↦ at + length p.0 + 1 | None ↦ length bs ]

-- the cuts on both sides of the byte behind that piece
pub record CutAtEdges (b : ℕ) (bs : List ℕ) (at : ℕ) : Type 0 where
  pub before : at ≤ length bs → Edge bs (at + length (piece_at b bs at))
  pub behind : Edge bs (place_behind b bs at)

-- an argument is the piece at a place of the text, and begins and ends at edges, as does the separator behind it
pub record ArgumentAtEdges (text : List ℕ) (at : ℕ) (argument : List ℕ) : Type 0 where
  pub here : argument ≡ piece_at separator text at
  pub within : at + length argument ≤ length text
  pub front : Edge text at
  pub back : Edge text (at + length argument)
  pub cuts : CutAtEdges separator text at

-- so is each argument of a list: the first at a place, and each other behind the one before it and its separator
abbrev pub ArgumentsAtEdges : List ℕ → ℕ → List (List ℕ) → Type 0
ArgumentsAtEdges text at [] = Unit {0}
ArgumentsAtEdges text at (p ∷ ps) = ArgumentAtEdges text at p × ArgumentsAtEdges text (place_behind separator text at) ps

-- a part that a cut at b leaves in one piece
abbrev pub Whole : ℕ → List ℕ → Type 0
Whole b p = holds b p ≡ false

-- one argument, and that is empty: its text would be the empty text, which has none
abbrev pub LoneEmpty : List (List ℕ) → Type 0
LoneEmpty list = list ≡ [] ∷ []

-- what a joined text can carry
abbrev pub Carried : List (List ℕ) → Type 0
Carried list = AllByRecursion (Whole separator) list × (LoneEmpty list → ⊥)

-- Joining the arguments of a text gives the text back.
abbrev pub JoinsBack : List ℕ → Type 0
JoinsBack text = join (arguments text) ≡ text

-- Cutting the joined list gives the list back.
abbrev pub CutsBack : List (List ℕ) → Type 0
CutsBack list = arguments (join list) ≡ list
