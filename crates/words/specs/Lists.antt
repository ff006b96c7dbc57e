-- A list of words with commas between them. A part that is no word of the set is passed over. Assumes nothing.
use Rattle.std.specs.Prelude.{◌≡◌, ℕ, ◌+◌, ◌<◌, ◌≤◌, List, [], ◌∷◌, map, length, drop, Some, None, Option}
use Rattle.std.specs.Option.{option_map}
use Rattle.text.specs.Arguments.{pieces, joined_by}
use Rattle.words.specs.declared.known.KnownWords.{KnownWords}

abbrev pub comma : ℕ
comma = 44

abbrev pub Reads : Type 0 → Type 0
Reads W = List ℕ → Option W

-- the words among the parts, in their order
abbrev pub known_in : {W : Type 0} → Reads W → List (List ℕ) → List W
known_in reads [] = []
known_in reads (p ∷ ps) = elim (reads p) [ Some w ↦ w ∷ known_in reads ps | None ↦ known_in reads ps ]

abbrev pub known : {W : Type 0} → Reads W → List ℕ → List W
known reads list = known_in reads (pieces comma list)

-- the words that an iterator over a list has still to give
abbrev pub words_left : {W : Type 0} → Reads W → KnownWords W → List W
words_left reads words = known reads words.rest.now

-- the first word among parts of which the first begins at a place, and the place behind its part and its comma
abbrev pub first_in : {W : Type 0} → Reads W → ℕ → List (List ℕ) → Option (W × ℕ)
first_in reads at [] = None
first_in reads at (p ∷ []) = option_map (λ w. (w, at + length p)) (reads p)
first_in reads at (p ∷ q ∷ ps) = elim (reads p) [ Some w ↦ Some (w, at + length p + 1) | None ↦ first_in reads (at + length p + 1) (q ∷ ps) ]

abbrev pub first_known : {W : Type 0} → Reads W → List ℕ → Option (W × ℕ)
first_known reads list = first_in reads 0 (pieces comma list)

-- the first word, and then the words behind its place
abbrev pub from_first : {W : Type 0} → Reads W → List ℕ → Option (W × ℕ) → List W
from_first reads list None = []
from_first reads list (Some p) = p.0 ∷ known reads (drop p.1 list)

-- Words written with commas between them read back as they are.
abbrev pub ListsReadBack : {W : Type 0} → Reads W → (W → List ℕ) → Type 0
ListsReadBack {W} reads spelled = (ws : List W) → known reads (joined_by comma (map spelled ws)) ≡ ws

-- the first word from a place on
abbrev pub first_from : {W : Type 0} → Reads W → List ℕ → ℕ → Option (W × ℕ)
first_from reads list at = first_in reads at (pieces comma (drop at list))

-- What a part tells the functions above it, all at once: the definitions go on behind it. It adds nothing to them.
pub record Ended {W : Type 0} (reads : Reads W) (list : List ℕ) (at : ℕ) : Type 0 where
  pub first : first_from reads list at ≡ None
  pub all : known reads (drop at list) ≡ []

pub record Part {W : Type 0} (reads : Reads W) (list : List ℕ) (at : ℕ) (part : List ℕ) (behind : ℕ) : Type 0 where
  pub onward : at < behind
  pub within : behind ≤ length list
  pub first_here : (w : W) → reads part ≡ Some w → first_from reads list at ≡ Some (w, behind)
  pub first_later : reads part ≡ None → first_from reads list at ≡ first_from reads list behind
  pub one_more : (w : W) → reads part ≡ Some w → known reads (drop at list) ≡ w ∷ known reads (drop behind list)
  pub no_more : reads part ≡ None → known reads (drop at list) ≡ known reads (drop behind list)
