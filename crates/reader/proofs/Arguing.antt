-- The argument at a place, and its ends. Assumes nothing.
use Rattle.std.proofs.Common.{◌≡◌, ℕ, ◌+◌, ◌-◌, ◌<◌, ◌≤◌, List, [], ◌∷◌, ◌++◌, length, take, drop, Some, None, Option, sym, refl, ap, ◌∙◌, subst, le_refl, arith, length-append, length-drop}
use Rattle.std.proofs.lemmas.List.{append_assoc, drop_at, drop-drop, drop-take, take_at, take_all}
use Rattle.flags.specs.Meaning.{Bytes}
use Rattle.flags.specs.declared.kinds.Code.{Code}
use Rattle.text.specs.Arguments.{pieces, piece_at, place_behind}
use Rattle.text.specs.Cuts.{Halves, cut_first}
use Rattle.text.proofs.Cutting.{cut_first_whole}
use Rattle.text.proofs.Walking.{piece_by, place_by}
use Rattle.tables.specs.Tables.{Options}
use Rattle.reading.specs.Reading.{free, long_owed}
use Rattle.reading.specs.Left.{behind, first_from, first_taken}
use Rattle.reader.specs.Cursors.{args_behind}
use Rattle.reader.specs.Turns.{ArgumentAt, PartAt}
use Rattle.reader.specs.declared.place.Place.{Place}
use Rattle.reader.specs.declared.place.Argument.{Argument}
use Rattle.reader.proofs.Leaving.{pieces_here, pieces_later, pieces-at_end}

end_there : (text xs ys : Bytes) (end : ℕ) → length (xs ++ ys) ≤ end → xs ++ ys ≡ take (length (xs ++ ys)) (drop (end - length (xs ++ ys)) text) → ys ≡ take (length ys) (drop (end - length ys) text)
end_there text xs ys end long there =
    let all : length (xs ++ ys) ≡ length xs + length ys = length-append xs ys in
    let from : end - length (xs ++ ys) + length xs ≡ end - length ys = omega arith in
    sym (drop_at xs ys _ refl)
    ∙ ap (drop (length xs)) there
    ∙ ap (λ n. drop (length xs) (take n (drop (end - length (xs ++ ys)) text))) all
    ∙ drop-take (length xs) (length ys) (drop (end - length (xs ++ ys)) text)
    ∙ ap (take (length ys)) (drop-drop (length xs) (end - length (xs ++ ys)) text ∙ ap (λ n. drop n text) from)

-- the last bytes of a part of a text are one there
pub part_end : (text xs : Bytes) (a b : Argument) → a.bytes.now ≡ xs ++ b.bytes.now → b.end ≡ a.end → b.behind ≡ a.behind → PartAt text a → PartAt text b
part_end text xs a b e end behind' is = record {
  there = subst (λ n. b.bytes.now ≡ take (length b.bytes.now) (drop (n - length b.bytes.now) text)) (sym end) (end_there text xs b.bytes.now a.end (subst (λ l. length l ≤ a.end) e a.long) (subst (λ l. l ≡ take (length l) (drop (a.end - length l) text)) e is.there));
  within = subst (λ n. n ≤ length text) (sym end) is.within;
  same_text = ap (λ (p : Place). p.text.now) behind' ∙ is.same_text;
}

-- the last bytes of an argument are an argument there
pub argument_end : (text xs : Bytes) (a b : Argument) (args : List Bytes) → a.bytes.now ≡ xs ++ b.bytes.now → b.end ≡ a.end → b.behind ≡ a.behind → ArgumentAt text a args → ArgumentAt text b args
argument_end text xs a b args e end behind' is = record {
  part = part_end text xs a b e end behind' is.part;
  at_end = ap (λ n. pieces 31 (drop n text)) end ∙ is.at_end;
  later = ap (λ (p : Place). pieces 31 (drop p.at text)) behind' ∙ is.later;
}

-- behind a byte of an argument
pub argument_cut : (text : Bytes) (a b : Argument) (x : ℕ) (xs : Bytes) (args : List Bytes) → Some (xs, b.bytes.now) ≡ cut_first x a.bytes.now → b.end ≡ a.end → b.behind ≡ a.behind → ArgumentAt text a args → ArgumentAt text b args
argument_cut text a b x xs args cut end behind' is =
    argument_end text (xs ++ x ∷ []) a b args (cut_first_whole x a.bytes.now (xs, b.bytes.now) (sym cut) ∙ sym (append_assoc xs (x ∷ []) b.bytes.now)) end behind' is

module _ (text : Bytes) (at : ℕ) where
  front_by : (o : Option Halves) → cut_first 31 (drop at text) ≡ o → (let p : Bytes = piece_by o (drop at text) in (take (length p) (drop at text) ≡ p) × (length p ≤ length (drop at text)))
  front_by None e = (take_all (length (drop at text)) (drop at text) (le_refl _), le_refl _)
  front_by (Some h) e =
      let whole = cut_first_whole 31 (drop at text) h e in
      (ap (take (length h.0)) whole ∙ take_at h.0 (31 ∷ h.1) _ refl, omega (arith, ap length whole, length-append h.0 (31 ∷ h.1)))

  abbrev piece : Bytes
  piece = piece_at 31 text at

  module _ (in' : at ≤ length text) where
    bounds_by : (o : Option Halves) → cut_first 31 (drop at text) ≡ o → (let p : ℕ = place_by o at (length text) in (at ≤ p) × (p ≤ length text))
    bounds_by None e = (in', le_refl _)
    bounds_by (Some h) e =
        let whole = cut_first_whole 31 (drop at text) h e in
        (omega arith, omega (arith, ap length whole, length-append h.0 (31 ∷ h.1), length-drop at text))

    pub place_bounds : (at ≤ place_behind 31 text at) × (place_behind 31 text at ≤ length text)
    place_bounds = bounds_by (cut_first 31 (drop at text)) refl

    pub piece_within : at + length piece ≤ length text
    piece_within = omega (arith, (front_by (cut_first 31 (drop at text)) refl).1, length-drop at text)

    -- the argument there
    pub argument_there : (a : Argument) → a.bytes.now ≡ piece → a.end ≡ at + length a.bytes.now → a.behind.at ≡ place_behind 31 text at → a.behind.text.now ≡ text → ArgumentAt text a (args_behind text at)
    argument_there a is ends behind' same =
        let front = front_by (cut_first 31 (drop at text)) refl in
        let long : length a.bytes.now ≡ length piece = ap length is in
        let last : a.end ≡ at + length piece = omega arith in
        let here : at ≡ a.end - length a.bytes.now = omega arith in
        record {
          part = record {
            there = is ∙ sym front.0 ∙ ap (λ n. take n (drop at text)) (sym long) ∙ ap (λ n. take (length a.bytes.now) (drop n text)) here;
            within = omega (arith, front.1, length-drop at text);
            same_text = same;
          };
          at_end = ap (λ n. pieces 31 (drop n text)) last ∙ pieces-at_end text at;
          later = ap (λ n. pieces 31 (drop n text)) behind' ∙ pieces_later text at;
        }

  -- behind a byte there is a later place
  pub place_later : at < length text → at < place_behind 31 text at
  place_later in' = by (cut_first 31 (drop at text))
    where
      by : (o : Option Halves) → at < place_by o at (length text)
      by None = in'
      by (Some h) = omega arith

-- a long option takes the next argument, or the empty one
module _ (o : Options) (c : Code) where
  owed_by : (args : List Bytes) (a : Bytes) (others : List Bytes) → behind args ≡ a ∷ others → first_from o (long_owed c) args ≡ first_taken c a others (first_from o free others)
  owed_by [] a others e =
      let first : a ≡ [] = cc in
      let rest : others ≡ [] = cc in
      rw (first, rest)
  owed_by (b ∷ args) a others e =
      let first : a ≡ b = cc in
      let rest : others ≡ args = cc in
      rw (first, rest)

  pub long_owed_next : (text : Bytes) (at : ℕ) (args : List Bytes) → pieces 31 (drop at text) ≡ behind args → first_from o (long_owed c) args ≡ first_taken c (piece_at 31 text at) (args_behind text at) (first_from o free (args_behind text at))
  long_owed_next text at args e = owed_by args _ _ (sym e ∙ pieces_here text at)
