-- The front of a text: its first arguments, up to a separator. Assumes nothing.
use Rattle.std.proofs.Common.{◌≡◌, ℕ, zero, suc, ◌+◌, ◌-◌, ◌<◌, ◌≤◌, Bool, true, false, cond, eqb, List, [], ◌∷◌, ◌++◌, length, take, drop, Some, None, Option, IfSome, sym, refl, ap, ◌∙◌, arith}
use Rattle.std.specs.Option.{option_map, unwrap_or}
use Rattle.std.proofs.Math.Seq.{drop-cons}
use Rattle.std.proofs.lemmas.List.{length-append, length-take, take_all, take-take, take_at, take-append-drop}
use Rattle.std.proofs.lemmas.Bool.{both_ways, cond-true, eq-eqb}
use Rattle.text.specs.Arguments.{separator, onto_first, pieces, arguments, Whole}
use Rattle.text.specs.Cuts.{begins, last_place, sides}
use Rattle.text.proofs.Cutting.{Holds, cut_last_sides, cut_last_none, cut_last_back, last_held}
use Rattle.text.proofs.Joining.{length-pieces, pieces_one, arguments_some}
use Rattle.joined.specs.Parts.{Text, Front}

-- Cut at its last b, a text loses its last piece.
pieces_last : (b : ℕ) (front back : List ℕ) → Whole b back → pieces b (front ++ b ∷ back) ≡ pieces b front ++ back ∷ []
pieces_last b [] back w = cond-true _ _ _ (eq-eqb b b refl) ∙ ap (λ ps. [] ∷ ps) (pieces_one b back w)
pieces_last b (x ∷ xs) back w = ap (λ ps. cond (eqb x b) ([] ∷ ps) (onto_first x ps)) (pieces_last b xs back w) ∙ apart (eqb x b) (pieces b xs) (omega (arith, length-pieces b xs))
  where
    apart : (t : Bool) (ps : List (List ℕ)) → 0 < length ps → cond t ([] ∷ (ps ++ back ∷ [])) (onto_first x (ps ++ back ∷ [])) ≡ cond t ([] ∷ ps) (onto_first x ps) ++ back ∷ []
    apart true ps h = refl
    apart false [] h = absurd (omega arith)
    apart false (p ∷ ps) h = refl

-- a text with its last separator at a place
module _ (text : List ℕ) (at : ℕ) (first : begins separator text ≡ false) (is : last_place separator text ≡ Some at) where
  abbrev front : List ℕ
  front = take at text

  abbrev back : List ℕ
  back = drop (suc at) text

  there : Holds separator text at
  there = rw is at (last_held separator text)

  whole : text ≡ front ++ separator ∷ back
  whole = sym (take-append-drop at text) ∙ ap (λ l. front ++ l) (drop-cons text at 0 there.0 ∙ ap (λ y. y ∷ back) there.1)

  bare : Whole separator back
  bare = cut_last_back separator text (front, back) (cut_last_sides separator text ∙ ap (option_map (sides text)) is)

  behind_first : 0 < at
  behind_first = by text at first there
    where
      by : (l : List ℕ) (i : ℕ) → begins separator l ≡ false → Holds separator l i → 0 < i
      by [] i f h = absurd (omega arith)
      by (x ∷ xs) zero f h = absurd (both_ways _ f (eq-eqb x separator h.1))
      by (x ∷ xs) (suc i) f h = omega arith

  listed : arguments text ≡ arguments front ++ back ∷ []
  listed =
      let some : 0 < length front = omega (arith, length-take at text, behind_first, there.0) in
      arguments_some text (omega (arith, there.0)) ∙ ap (pieces separator) whole ∙ pieces_last separator front back bare ∙ ap (λ ps. ps ++ back ∷ []) (sym (arguments_some front some))

  front_many : length (arguments text) ≡ length (arguments front) + 1
  front_many = ap length listed ∙ length-append (arguments front) (back ∷ [])

  front_list : (n : ℕ) → length (arguments front) ≡ n → arguments front ≡ take n (arguments text)
  front_list n e = sym (ap (take n) listed ∙ take_at (arguments front) (back ∷ []) n e)

-- a text with no separator has one argument at most
alone : (text : List ℕ) → last_place separator text ≡ None → length (arguments text) ≤ 1
alone [] is = omega arith
alone (x ∷ xs) is =
    let none = cut_last_none separator (x ∷ xs) (cut_last_sides separator (x ∷ xs) ∙ ap (option_map (sides (x ∷ xs))) is) in omega (arith, ap length (pieces_one separator (x ∷ xs) none))

-- a front begins as its text, or is empty
begins_front : (b at : ℕ) (text : List ℕ) → begins b text ≡ false → begins b (take at text) ≡ false
begins_front b zero text f = refl
begins_front b (suc at) [] f = refl
begins_front b (suc at) (x ∷ xs) f = f

-- where the text up to a place ends without its last argument
abbrev pub before_last : List ℕ → ℕ → ℕ
before_last bytes to = unwrap_or (last_place separator (take to bytes)) 0

-- and without its last k arguments
abbrev pub before : List ℕ → ℕ → ℕ → ℕ
before bytes to zero = to
before bytes to (suc k) = before bytes (before_last bytes to) k

front_less : (bytes : List ℕ) (end n more to : ℕ) → more ≡ n + 1 → Front bytes end more to → Front bytes end n (before_last bytes to)
front_less bytes end n more to e f = by (last_place separator text) refl
  where
    text : List ℕ
    text = take to bytes

    by : (o : Option ℕ) → last_place separator text ≡ o → Front bytes end n (unwrap_or o 0)
    by None is =
        let none : n ≡ 0 = omega (arith, f.text.counted, alone text is) in
        rw none (record { within = omega arith; text = record { counted = refl; first = refl }; list = refl })
    by (Some at) is =
        let inside : at < length text = (there text at f.text.first is).0 in
        let same : take at bytes ≡ take at text = sym (take-take at to bytes (omega (arith, length-take to bytes))) in
        let many : length (arguments (take at text)) ≡ n = omega (arith, f.text.counted, front_many text at f.text.first is) in
        record {
          within = omega (arith, length-take to bytes, f.within);
          text = record {
            counted = sym (ap (λ l. length (arguments l)) same ∙ many);
            first = ap (begins separator) same ∙ begins_front separator at text f.text.first;
          };
          list = ap arguments same ∙ front_list text at f.text.first is n many ∙ ap (take n) f.list ∙ take-take n more _ (omega arith);
        }

fronts : (bytes : List ℕ) (end n k more to : ℕ) → more ≡ n + k → Front bytes end more to → Front bytes end n (before bytes to k)
fronts bytes end n zero more to e f = let same : n ≡ more = omega arith in rw same f
fronts bytes end n (suc k) more to e f = fronts bytes end n k (n + k) (before_last bytes to) refl (front_less bytes end (n + k) more to (omega arith) f)

pub front_is : (bytes : List ℕ) (end count n : ℕ) → Text bytes end count → n < count → Front bytes end n (before bytes end (count - n))
front_is bytes end count n t less =
    let all : arguments (take end bytes) ≡ take count (arguments (take end bytes)) = sym (take_all count (arguments (take end bytes)) (omega (arith, t.counted))) in
    fronts bytes end n (count - n) count end (omega arith) (record { within = omega arith; text = t; list = all })

pub before_more : (bytes : List ℕ) (to count i : ℕ) → i < count → before bytes to (count - i) ≡ before bytes (before_last bytes to) (count - (i + 1))
before_more bytes to count i less = let more : count - i ≡ suc (count - (i + 1)) = omega arith in ap (before bytes to) more

pub before_le : (bytes : List ℕ) (to : ℕ) → before_last bytes to ≤ to
before_le bytes to = by (last_place separator (take to bytes)) (last_held separator (take to bytes))
  where
    by : (o : Option ℕ) → IfSome o (Holds separator (take to bytes)) → unwrap_or o 0 ≤ to
    by None h = omega arith
    by (Some at) h = omega (arith, h.0, length-take to bytes)

pub ruleset walked_back = (front_is, before_more, before_le)
