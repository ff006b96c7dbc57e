-- An option takes an argument: the first flag of it, and what is left. Assumes nothing.
use Rattle.std.proofs.Common.{◌≡◌, ℕ, ◌+◌, ◌-◌, ◌<◌, ◌≤◌, List, [], ◌∷◌, length, take, drop, Some, None, sym, refl, ap, ◌∙◌, arith, length-drop}
use Rattle.std.proofs.lemmas.List.{drop-drop, drop-take}
use Rattle.construct.specs.Made.{first_made}
use Rattle.flags.specs.Meaning.{Bytes, Meaning, meaning}
use Rattle.flags.specs.declared.flag.Flag.{Flag}
use Rattle.flags.specs.declared.kinds.Code.{Code}
use Rattle.text.specs.Arguments.{pieces}
use Rattle.tables.specs.Tables.{Options}
use Rattle.reading.specs.Reading.{free}
use Rattle.reading.specs.Left.{Left, First, between, in_list, behind, rest_left, first_made_of, first_taken, first, first_from}
use Rattle.reader.specs.Turns.{PartAt, ArgumentAt, first_made_at, TellsMade}
use Rattle.reader.specs.declared.cursor.State.TheVariants.{List as InList}
use Rattle.reader.specs.declared.turns.Turn.TheVariants.{Gives}
use Rattle.reader.specs.declared.place.Argument.{Argument}
use Rattle.reader.proofs.Leaving.{first_behind}

some_left : (used_up : Left) (more : Bytes → Left) (rest : Bytes) → 0 < length rest → rest_left used_up more rest ≡ more rest
some_left used_up more [] l = absurd (omega arith)
some_left used_up more (b ∷ bs) l = refl

module _ (o : Options) (c : Code) (text : Bytes) (a : Argument) where
  abbrev bytes : Bytes
  bytes = a.bytes.now

  -- something is left of the bytes behind their first flag
  module _ (is : PartAt text a) (m : Meaning) (n : ℕ) (e : Some (m, n) ≡ first_made c bytes) (some : n < length bytes) where
    abbrev left : ℕ
    left = length bytes - n

    abbrev more : Bytes → Left
    more rest = in_list c rest (pieces 31 (drop a.end text))

    rest_there : drop n bytes ≡ take left (drop (a.end - left) text)
    rest_there =
        let long : length bytes ≤ a.end = a.long in
        let split : length bytes ≡ n + left = omega arith in
        let from : a.end - length bytes + n ≡ a.end - left = omega arith in
        ap (drop n) is.there
        ∙ ap (λ k. drop n (take k (drop (a.end - length bytes) text))) split
        ∙ drop-take n left (drop (a.end - length bytes) text)
        ∙ ap (take left) (drop-drop n (a.end - length bytes) text ∙ ap (λ k. drop k text) from)

    rest_made : first_made_at o c text a ≡ Some (m, in_list c (take left (drop (a.end - left) text)) (pieces 31 (drop (a.end - left + left) text)))
    rest_made =
        let on : Left = between (pieces 31 (drop a.behind.at text)) in
        let long : length bytes ≤ a.end = a.long in
        let split : a.end ≡ a.end - left + left = omega arith in
        ap (λ f. elim f as (λ _. First) [ None ↦ first o on | Some made ↦ Some (made.0, rest_left on more (drop made.1 bytes)) ]) (sym e)
        ∙ ap (λ l. Some (m, l)) (some_left on more (drop n bytes) (omega (arith, length-drop n bytes)))
        ∙ ap (λ r. Some (m, more r)) rest_there
        ∙ ap (λ k. Some (m, in_list c (take left (drop (a.end - left) text)) (pieces 31 (drop k text)))) split

  -- an argument, with others behind it
  pub taken_at : (args : List Bytes) → ArgumentAt text a args → first_taken c bytes args (first_from o free args) ≡ first_made_at o c text a
  taken_at args is =
      ap (first_made_of c bytes (between (behind args)) (λ rest. in_list c rest ([] ∷ args))) (sym (first_behind o args))
      ∙ ap (λ l. first_made_of c bytes (between l) (λ rest. in_list c rest ([] ∷ args)) (first o (between l))) (sym is.later)
      ∙ ap (λ l. first_made_of c bytes (between (pieces 31 (drop a.behind.at text))) (λ rest. in_list c rest l) (first o (between (pieces 31 (drop a.behind.at text))))) (sym is.at_end)

  -- what is left of a list
  pub list_at : (at n : ℕ) → bytes ≡ take n (drop at text) → drop a.end text ≡ drop (at + n) text → a.behind.at ≡ a.end → first o (in_list c (take n (drop at text)) (pieces 31 (drop (at + n) text))) ≡ first_made_at o c text a
  list_at at n is ends last =
      ap (λ l. first o (in_list c l (pieces 31 (drop (at + n) text)))) (sym is)
      ∙ ap (λ l. first o (in_list c bytes (pieces 31 l))) (sym ends)
      ∙ ap (λ p. first_made_of c bytes (between (pieces 31 (drop p text))) (λ rest. in_list c rest (pieces 31 (drop a.end text))) (first o (between (pieces 31 (drop p text))))) (sym last)

pub rest_tells : (c : Code) (a : Argument) (flag : Flag) (n : ℕ) → Some (meaning flag, n) ≡ first_made c a.bytes.now → n < length a.bytes.now → TellsMade c a (Gives flag (record { at = a.end - (length a.bytes.now - n); state = InList c (length a.bytes.now - n) }))
rest_tells c a flag n e some = record { told = λ o text is w less. (rest_made o c text a is (meaning flag) n e some, omega (arith, is.within)) }
