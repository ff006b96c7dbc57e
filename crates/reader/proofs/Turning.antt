-- What a turn tells, carried from one definition to the next. Assumes nothing.
use Rattle.std.proofs.Common.{◌≡◌, ℕ, ◌+◌, ◌-◌, List, [], ◌∷◌, length, drop, Some, None, Option, sym, refl, ap, ◌∙◌, subst}
use Rattle.flags.specs.Codes.{about}
use Rattle.flags.specs.Meaning.{Bytes}
use Rattle.flags.specs.declared.kinds.Code.{Code}
use Rattle.text.specs.Arguments.{pieces, piece_at, place_behind}
use Rattle.text.specs.Cuts.{Halves, cut_first}
use Rattle.tables.specs.Tables.{Options}
use Rattle.reading.specs.Reading.{State, free, long_owed}
use Rattle.reading.specs.Left.{First, between, first_from, first_taken, first_equipped, first_alone, first_long, first_rest, first_letter, first}
use Rattle.reader.specs.Cursors.{args_behind, left_in}
use Rattle.reader.specs.declared.cursor.State.{State as At}
use Rattle.reader.specs.Turns.{Tells, TellsFrom, weight_in}
use Rattle.reader.specs.declared.turns.Turn.{Turn}
use Rattle.reader.proofs.Leaving.{pieces_here, pieces_later, no_piece, args_here, first_behind}

pub tells_by : (o : Options) (text : Bytes) (w : ℕ) (r : Turn) (f g : First) → f ≡ g → Tells o text w g r → Tells o text w f r
tells_by o text w r f g e t = subst (λ h. Tells o text w h r) (sym e) t

-- a place by another name
pub tells_moved : (o : Options) (r : Turn) (f : Bytes → ℕ → First) (t text : Bytes) (p at : ℕ) → t ≡ text → p ≡ at → TellsFrom o t p (f t p) r → TellsFrom o text at (f text at) r
tells_moved o r f t text p at e e' told = subst (λ q. TellsFrom o text q (f text q) r) e' (subst (λ l. TellsFrom o l p (f l p) r) e told)

module _ (args : List Bytes) (later : State → First) (c : Code) (takes : None ≡ (about c).flag) where
  pub equipped_takes : (k : Option Code) (a : Bytes) → Some c ≡ k → first_equipped args later k a ≡ first_taken c a args (later free)
  equipped_takes k a e = rw (← e, ← takes, first_equipped)

  pub alone_takes : (k : Option Code) → Some c ≡ k → first_alone args later k ≡ later (long_owed c)
  alone_takes k e = rw (← e, ← takes, first_alone)

module _ (args : List Bytes) (later : State → First) (o : Options) (body : Bytes) where
  pub long_equipped : (h : Halves) → Some h ≡ cut_first 61 body → first_long args later o body ≡ first_equipped args later (o.long h.0) h.1
  long_equipped h e = rw (← e, first_long)

  pub long_alone : None ≡ cut_first 61 body → first_long args later o body ≡ first_alone args later (o.long body)
  long_alone e = rw (← e, first_long)

-- what a short option takes: the rest of its argument, or the next one
module _ (o : Options) (text : Bytes) (at : ℕ) (c : Code) where
  abbrev args : List Bytes
  args = args_behind text at

  abbrev rest_first : Bytes → List Bytes → First
  rest_first p l = first_rest l (λ t. first_from o t l) c p

  pub rest_next : drop at text ≡ 31 ∷ drop (at + 1) text → rest_first (piece_at 31 text at) args ≡ first_taken c (piece_at 31 text (at + 1)) (args_behind text (at + 1)) (first_from o free (args_behind text (at + 1)))
  rest_next e = ap (λ p. rest_first p args) (no_piece text at 31 e refl) ∙ ap (rest_first []) (args_here text at 31 e refl ∙ pieces_here text (at + 1))

pub skipped_first : (o : Options) (text : Bytes) (at place : ℕ) → place ≡ place_behind 31 text at → first_from o free (args_behind text at) ≡ first o (between (pieces 31 (drop place text)))
skipped_first o text at place e = sym (first_behind o (args_behind text at)) ∙ ap (λ l. first o (between l)) (sym (pieces_later text at) ∙ ap (λ n. pieces 31 (drop n text)) (sym e))

module _ (args : List Bytes) (later : State → First) (bs : Bytes) where
  pub letter_takes : (c : Code) (k : Option Code) → None ≡ (about c).flag → Some c ≡ k → first_letter args later k bs ≡ first_rest args later c bs
  letter_takes c k takes e = rw (← e, ← takes, first_letter)

  pub letter_unknown : (k : Option Code) → None ≡ k → first_letter args later k bs ≡ later free
  letter_unknown k e = rw (← e, first_letter)

-- in a state that is known
pub in_state : (o : Options) (text : Bytes) (r : Turn) (at : ℕ) (t s : At) → t ≡ s → Tells o text (weight_in s (length text - at)) (first o (left_in s text at)) r → Tells o text (weight_in t (length text - at)) (first o (left_in t text at)) r
in_state o text r at t s e = subst (λ x. Tells o text (weight_in x (length text - at)) (first o (left_in x text at)) r) (sym e)
