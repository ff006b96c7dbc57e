-- An argument by its shape. Assumes nothing.
use Rattle.std.proofs.Common.{◌≡◌, ℕ, ◌+◌, Bool, true, false, cond, eqb, List, [], ◌∷◌, drop, None, sym, refl, ap, ◌∙◌, ◌⊎◌, ⊎_elim}
use Rattle.std.proofs.lemmas.Bool.{both_ways, cases_Bool, cond-false, eqb-true, eq-eqb, ne_eqb}
use Rattle.flags.specs.Meaning.{Bytes}
use Rattle.text.specs.Arguments.{pieces, piece_at, place_behind}
use Rattle.text.specs.Shapes.{Form, form, form_of, behind_two, empty, single, double, long, short, plain}
use Rattle.text.specs.declared.shapes.Shape.{Shape}
use Rattle.text.specs.declared.shapes.Shape.TheVariants.{Empty, Dash, Plain}
use Rattle.tables.specs.Tables.{Options}
use Rattle.reading.specs.Reading.{State, free}
use Rattle.reading.specs.Left.{First, between, in_cluster, first, first_from, first_free, first_letter, first_cluster}
use Rattle.reader.specs.Cursors.{args_behind}
use Rattle.reader.proofs.Leaving.{pieces_here, piece_on, args_on, no_piece, first_ended}
use Rattle.reader.proofs.Turning.{skipped_first}

not_separator : ◌≡◌ {A = ℕ} 45 31 → ⊥
not_separator e = absurd (cc)

-- what is left at the start of an argument
module _ (o : Options) (text : Bytes) (at : ℕ) where
  abbrev args : List Bytes
  args = args_behind text at

  pub between_first : (a : Bytes) (f : Form) → a ≡ piece_at 31 text at → f ≡ form_of a → first o (between (pieces 31 (drop at text))) ≡ first_free args (λ t. first_from o t args) o f
  between_first a f is e =
      ap (first_from o free) (pieces_here text at)
      ∙ ap (λ p. first_free args (λ t. first_from o t args) o (form_of p)) (sym is)
      ∙ ap (first_free args (λ t. first_from o t args) o) (sym e)

  -- a cluster, behind its dash
  pub cluster_first : drop at text ≡ 45 ∷ drop (at + 1) text → (a letters : Bytes) → a ≡ piece_at 31 text at → short letters ≡ form_of a → first o (between (pieces 31 (drop at text))) ≡ first o (in_cluster (piece_at 31 text (at + 1)) (args_behind text (at + 1)))
  cluster_first here a letters is e =
      let whole : a ≡ 45 ∷ piece_at 31 text (at + 1) = is ∙ piece_on text at 45 here not_separator in
      let same : letters ≡ piece_at 31 text (at + 1) = letters_are letters (piece_at 31 text (at + 1)) (e ∙ ap form_of whole) in
      between_first a (short letters) is e
      ∙ ap (first_cluster args (λ t. first_from o t args) o) same
      ∙ ap (λ l. first_cluster l (λ t. first_from o t l) o (piece_at 31 text (at + 1))) (args_on text at 45 here not_separator)
    where
      at_second : (letters : Bytes) (y : ℕ) (ys : Bytes) (t : Bool) → short letters ≡ cond t (behind_two ys) (short (y ∷ ys)) → letters ≡ y ∷ ys
      at_second letters y [] true e = cc
      at_second letters y (z ∷ zs) true e = cc
      at_second letters y ys false e = cc

      letters_are : (letters bs : Bytes) → short letters ≡ form_of (45 ∷ bs) → letters ≡ bs
      letters_are letters [] e = cc
      letters_are letters (y ∷ ys) e = at_second letters y ys (eqb y 45) e

-- the bytes behind two dashes
two_dashes : (x y : ℕ) (ys body : Bytes) (s t : Bool) → eqb x 45 ≡ s → eqb y 45 ≡ t → long body ≡ cond s (cond t (behind_two ys) (short (y ∷ ys))) plain → x ∷ y ∷ ys ≡ 45 ∷ 45 ∷ body
two_dashes x y [] body true true f g e = cc
two_dashes x y (z ∷ zs) body true true f g e =
    let first : x ≡ 45 = eqb-true x 45 f in
    let second : y ≡ 45 = eqb-true y 45 g in
    cc
two_dashes x y ys body true false f g e = cc
two_dashes x y ys body false t f g e = cc

one_byte : (x : ℕ) (body : Bytes) (s : Bool) → long body ≡ cond s single plain → ⊥
one_byte x body true e = cc
one_byte x body false e = cc

pub long_is : (a body : Bytes) → long body ≡ form_of a → a ≡ 45 ∷ 45 ∷ body
long_is [] body e = cc
long_is (x ∷ []) body e = absurd (one_byte x body (eqb x 45) e)
long_is (x ∷ y ∷ ys) body e = two_dashes x y ys body (eqb x 45) (eqb y 45) refl refl e

-- a shape that gives nothing
pub nothing_in : (o : Options) (args : List Bytes) (later : State → First) (s : Shape) → (s ≡ Empty) ⊎ ((s ≡ Dash) ⊎ (s ≡ Plain)) → first_free args later o (form s) ≡ later free
nothing_in o args later s is =
    let gives : Shape → First = λ x. first_free args later o (form x) in
    ⊎_elim (λ e. ap gives e) (λ others. ⊎_elim (λ e. ap gives e) (λ e. ap gives e) others) is

-- an argument that gives nothing is passed over
pub passed_first : (o : Options) (text : Bytes) (at place : ℕ) (a : Bytes) (f : Form) → a ≡ piece_at 31 text at → place ≡ place_behind 31 text at → f ≡ form_of a → first_free (args_behind text at) (λ t. first_from o t (args_behind text at)) o f ≡ first_from o free (args_behind text at) → first o (between (pieces 31 (drop at text))) ≡ first o (between (pieces 31 (drop place text)))
passed_first o text at place a f is behind' e nothing = between_first o text at a f is e ∙ nothing ∙ skipped_first o text at place behind'

pub ended_first : (o : Options) (text : Bytes) (at : ℕ) (a : Bytes) → a ≡ piece_at 31 text at → double ≡ form_of a → first o (between (pieces 31 (drop at text))) ≡ None
ended_first o text at a is e = between_first o text at a double is e ∙ first_ended o (args_behind text at)

-- an argument that does not begin with a dash
pub plain_first : (o : Options) (text : Bytes) (at x : ℕ) → drop at text ≡ x ∷ drop (at + 1) text → (x ≡ 45 → ⊥) → first o (between (pieces 31 (drop at text))) ≡ first_from o free (args_behind text at)
plain_first o text at x here no_dash = ⊎_elim
    (λ t. between_first o text at [] empty (sym (no_piece text at x here (eqb-true x 31 t))) refl)
    (λ t. let a = x ∷ piece_at 31 text (at + 1) in between_first o text at a plain (sym (piece_on text at x here (λ e. both_ways _ t (eq-eqb x 31 e)))) (sym (cond-false _ _ _ (ne_eqb x 45 no_dash))))
    (cases_Bool (eqb x 31))

-- a letter of a cluster
pub letter_first : (o : Options) (text : Bytes) (at x : ℕ) → drop at text ≡ x ∷ drop (at + 1) text → (x ≡ 31 → ⊥) → first o (in_cluster (piece_at 31 text at) (args_behind text at)) ≡ first_letter (args_behind text (at + 1)) (λ t. first_from o t (args_behind text (at + 1))) (o.short x) (piece_at 31 text (at + 1))
letter_first o text at x here other =
    ap (first_cluster (args_behind text at) (λ t. first_from o t (args_behind text at)) o) (piece_on text at x here other)
    ∙ ap (λ l. first_letter l (λ t. first_from o t l) (o.short x) (piece_at 31 text (at + 1))) (args_on text at x here other)
