-- A text, and an argument behind it. Assumes nothing.
use Rattle.std.proofs.Common.{◌≡◌, ℕ, zero, suc, ◌+◌, ◌<◌, ◌≤◌, Bool, true, false, cond, ◌||◌, eqb, leb, List, [], ◌∷◌, ◌++◌, length, take, Some, None, Option, sym, refl, ap, ◌∙◌, arith}
use Rattle.std.specs.Option.{option_map}
use Rattle.std.proofs.ByRecursion.{All-append}
use Rattle.std.proofs.lemmas.List.{append_assoc, length-append, nil_from_length}
use Rattle.std.proofs.lemmas.Bool.{cond-true, cond-false, le-leb, lt-leb, or_parts, leb-true}
use Rattle.std.proofs.lemmas.Bool.Decides.{nat_tests}
use Rattle.text.specs.Arguments.{separator, arguments, join, Whole}
use Rattle.text.specs.Cuts.{holds, begins, first_place}
use Rattle.text.proofs.Joining.{joins_back, arguments_whole, cuts_back}
use Rattle.sinks.specs.Sinks.{Bar, uncarried, full, refusal, or_else, first_bar}
use Rattle.joined.specs.Joined.{room, rules_at}
use Rattle.joined.specs.Parts.{bytes_bar}

-- bytes behind the last argument
pub join_grown : (list : List (List ℕ)) (a more : List ℕ) → join (list ++ (a ++ more) ∷ []) ≡ join (list ++ a ∷ []) ++ more
join_grown [] a more = refl
join_grown (p ∷ []) a more = sym (append_assoc p (separator ∷ a) more)
join_grown (p ∷ q ∷ rest) a more = ap (λ l. p ++ separator ∷ l) (join_grown (q ∷ rest) a more) ∙ sym (append_assoc p (separator ∷ join (q ∷ rest ++ a ∷ [])) more)

join_more : (p : List ℕ) (ps : List (List ℕ)) (a : List ℕ) → join ((p ∷ ps) ++ a ∷ []) ≡ join (p ∷ ps) ++ separator ∷ a
join_more p [] a = refl
join_more p (q ∷ ps) a = ap (λ l. p ++ separator ∷ l) (join_more q ps a) ∙ sym (append_assoc p (separator ∷ join (q ∷ ps)) (separator ∷ a))

join_some : (list : List (List ℕ)) (a : List ℕ) → 0 < length (join list) → join (list ++ a ∷ []) ≡ join list ++ separator ∷ a
join_some [] a h = absurd (omega arith)
join_some (p ∷ ps) a h = join_more p ps a

-- an argument behind a text
pub join_behind : (text a : List ℕ) → 0 < length text → join (arguments text ++ a ∷ []) ≡ text ++ separator ∷ a
join_behind text a h =
    let back = joins_back text in
    let long : 0 < length (join (arguments text)) = omega (arith, ap length back) in
    join_some (arguments text) a long ∙ ap (λ l. l ++ separator ∷ a) back

-- the space for one more argument, by the text's length
pub no_text_room : (size : ℕ) (text : List ℕ) → length text ≡ 0 → room size (arguments text) [] ≡ None
no_text_room size text h = ap (λ l. room size (arguments l) []) (nil_from_length text h) ∙ ap (λ b. cond b None (Some full)) (le-leb 0 size (omega arith))

text_room_length : (text : List ℕ) → 0 < length text → length (join (arguments text ++ [] ∷ [])) ≡ length text + 1
text_room_length text h = ap length (join_behind text [] h) ∙ length-append text (separator ∷ [])

pub text_room : (size : ℕ) (text : List ℕ) → 0 < length text → length text < size → room size (arguments text) [] ≡ None
text_room size text h lt = ap (λ b. cond b None (Some full)) (le-leb (length (join (arguments text ++ [] ∷ []))) size (omega (arith, text_room_length text h)))

pub text_no_room : (size : ℕ) (text : List ℕ) → 0 < length text → length text ≡ size → room size (arguments text) [] ≡ Some full
text_no_room size text h e = ap (λ b. cond b None (Some full)) (lt-leb (length (join (arguments text ++ [] ∷ []))) size (omega (arith, text_room_length text h)))

-- `bytes_bar` by the place of the first separator and how many bytes there are
abbrev bar_by : ℕ → Option ℕ → ℕ → Option Bar
bar_by left o n = elim o [ Some at ↦ cond (leb at left) (Some uncarried) (Some full) | None ↦ cond (leb n left) None (Some full) ]

-- a byte more, with space for it and with none
bar_more : (left : ℕ) (o : Option ℕ) (n : ℕ) → bar_by left o n ≡ bar_by (suc left) (option_map suc o) (suc n)
bar_more left None n = ap (λ t. cond t None (Some full)) (grind (arith, nat_tests))
bar_more left (Some i) n = ap (λ t. cond t (Some uncarried) (Some full)) (grind (arith, nat_tests))

bar_full : (o : Option ℕ) (n : ℕ) → Some full ≡ bar_by 0 (option_map suc o) (suc n)
bar_full None n = sym (ap (λ t. cond t None (Some full)) (lt-leb (suc n) 0 (omega arith)))
bar_full (Some i) n = sym (ap (λ t. cond t (Some uncarried) (Some full)) (lt-leb (suc i) 0 (omega arith)))

module _ (size : ℕ) (list : List (List ℕ)) where
  abbrev long : List ℕ → ℕ
  long a = length (join (list ++ a ∷ []))

  grown : (a : List ℕ) (b : ℕ) → long (a ++ b ∷ []) ≡ long a + 1
  grown a b = ap length (join_grown list a (b ∷ [])) ∙ length-append (join (list ++ a ∷ [])) (b ∷ [])

  pub first_bar_is : (left : ℕ) (a bs : List ℕ) → long a + left ≡ size → first_bar (rules_at size) list a bs ≡ bytes_bar left bs
  first_bar_is left a [] e = sym (ap (λ t. cond t None (Some full)) (le-leb 0 left (omega arith)))
  first_bar_is left a (b ∷ bs) e = by (eqb b separator) left e (λ less f. first_bar_is less (a ++ b ∷ []) bs f)
    where
      by : (t : Bool) (left : ℕ) → long a + left ≡ size → ((less : ℕ) → long (a ++ b ∷ []) + less ≡ size → first_bar (rules_at size) list (a ++ b ∷ []) bs ≡ bytes_bar less bs) → or_else (cond t (Some uncarried) (room size list (a ++ b ∷ []))) (first_bar (rules_at size) list (a ++ b ∷ []) bs) ≡ bar_by left (cond t (Some 0) (option_map suc (first_place separator bs))) (length (b ∷ bs))
      by true left e rest = sym (ap (λ t. cond t (Some uncarried) (Some full)) (le-leb 0 left (omega arith)))
      by false zero e rest = ap (λ t. or_else (cond t None (Some full)) (first_bar (rules_at size) list (a ++ b ∷ []) bs)) (lt-leb (long (a ++ b ∷ [])) size (omega (arith, grown a b))) ∙ bar_full (first_place separator bs) (length bs)
      by false (suc left) e rest = ap (λ t. or_else (cond t None (Some full)) (first_bar (rules_at size) list (a ++ b ∷ []) bs)) (le-leb (long (a ++ b ∷ [])) size (omega (arith, grown a b))) ∙ rest left (omega (arith, grown a b)) ∙ bar_more left (first_place separator bs) (length bs)

-- `bytes_bar` by the bytes up to the one right behind the space
bar_near : (left : ℕ) (bs : List ℕ) → bytes_bar left bs ≡ cond (holds separator (take (suc left) bs)) (Some uncarried) (cond (leb (length bs) left) None (Some full))
bar_near left [] = refl
bar_near left (b ∷ bs) = by (eqb b separator) left (λ less. bar_near less bs)
  where
    by : (t : Bool) (left : ℕ) → ((less : ℕ) → bytes_bar less bs ≡ cond (holds separator (take (suc less) bs)) (Some uncarried) (cond (leb (length bs) less) None (Some full))) → bar_by left (cond t (Some 0) (option_map suc (first_place separator bs))) (length (b ∷ bs)) ≡ cond (t || holds separator (take left bs)) (Some uncarried) (cond (leb (length (b ∷ bs)) left) None (Some full))
    by true left rest = ap (λ t. cond t (Some uncarried) (Some full)) (le-leb 0 left (omega arith))
    by false zero rest = sym (bar_full (first_place separator bs) (length bs)) ∙ sym (ap (λ t. cond t None (Some full)) (lt-leb (suc (length bs)) 0 (omega arith)))
    by false (suc left) rest = sym (bar_more left (first_place separator bs) (length bs)) ∙ rest left ∙ ap (λ t. cond (holds separator (take (suc left) bs)) (Some uncarried) (cond t None (Some full))) (grind (arith, nat_tests))

-- the three answers by these bytes
pub near_holds : (left : ℕ) (bs : List ℕ) → holds separator (take (suc left) bs) ≡ true → Some (refusal uncarried) ≡ option_map refusal (bytes_bar left bs)
near_holds left bs h = sym (ap (option_map refusal) (bar_near left bs ∙ cond-true _ _ _ h))

pub near_passes : (left : ℕ) (bs : List ℕ) → holds separator (take (suc left) bs) ≡ false → left < length bs → Some (refusal full) ≡ option_map refusal (bytes_bar left bs)
near_passes left bs h over = sym (ap (option_map refusal) (bar_near left bs ∙ cond-false _ _ _ h ∙ cond-false _ _ _ (lt-leb (length bs) left over)))

pub near_fits : (left : ℕ) (bs : List ℕ) → holds separator (take (suc left) bs) ≡ false → length bs ≤ left → None ≡ option_map refusal (bytes_bar left bs)
near_fits left bs h fits = sym (ap (option_map refusal) (bar_near left bs ∙ cond-false _ _ _ h ∙ cond-true _ _ _ (le-leb (length bs) left fits)))

-- what a search for a byte says of all the bytes
abbrev Found : ℕ → Bool → Option ℕ → Type 0
Found n h None = h ≡ false
Found n h (Some i) = i < n

found : (b : ℕ) (bs : List ℕ) → Found (length bs) (holds b bs) (first_place b bs)
found b [] = refl
found b (x ∷ xs) = more (eqb x b) (length xs) (holds b xs) (first_place b xs) (found b xs)
  where
    more : (t : Bool) (n : ℕ) (h : Bool) (o : Option ℕ) → Found n h o → Found (suc n) (t || h) (cond t (Some 0) (option_map suc o))
    more true n h o f = omega arith
    more false n h None f = f
    more false n h (Some i) f = omega arith

pub bytes_fit : (left : ℕ) (bs : List ℕ) → None ≡ option_map refusal (bytes_bar left bs) → (length bs ≤ left) × (holds separator bs ≡ false)
bytes_fit left bs = by (first_place separator bs) (found separator bs)
  where
    by : (o : Option ℕ) → Found (length bs) (holds separator bs) o → None ≡ option_map refusal (bar_by left o (length bs)) → (length bs ≤ left) × (holds separator bs ≡ false)
    by None f = fits (leb (length bs) left) refl
      where
        fits : (t : Bool) → leb (length bs) left ≡ t → None ≡ option_map refusal (cond t None (Some full)) → (length bs ≤ left) × (holds separator bs ≡ false)
        fits true is e = (leb-true (length bs) left is, f)
        fits false is e = cc
    by (Some at) f = never (leb at left)
      where
        never : (t : Bool) → None ≡ option_map refusal (cond t (Some uncarried) (Some full)) → (length bs ≤ left) × (holds separator bs ≡ false)
        never true e = cc
        never false e = cc

-- the arguments of a text with one more behind it
pub args_more : (text a : List ℕ) → Whole separator a → 0 < length (join (arguments text ++ a ∷ [])) → arguments (join (arguments text ++ a ∷ [])) ≡ arguments text ++ a ∷ []
args_more text a w h =
    cuts_back (arguments text ++ a ∷ []) (All-append (Whole separator) (arguments text) (a ∷ []) (arguments_whole text) (w, tt))
    (λ lone. let z : length (join (arguments text ++ a ∷ [])) ≡ 0 = ap (λ l. length (join l)) lone in omega arith)

-- the first byte of a text is that of its front
pub begins_take : (b m n : ℕ) (xs : List ℕ) → 0 < m → m ≤ n → begins b (take n xs) ≡ begins b (take m xs)
begins_take b zero n xs h le = absurd (omega arith)
begins_take b (suc m) zero xs h le = absurd (omega arith)
begins_take b (suc m) (suc n) [] h le = refl
begins_take b (suc m) (suc n) (x ∷ xs) h le = refl

pub holds-append : (b : ℕ) (xs ys : List ℕ) → holds b xs ≡ false → holds b ys ≡ false → holds b (xs ++ ys) ≡ false
holds-append b [] ys p q = q
holds-append b (x ∷ xs) ys p q = let parts = or_parts (eqb x b) (holds b xs) p in rw parts.0 (holds-append b xs ys parts.1 q)

pub begins_whole : (b : ℕ) (xs : List ℕ) → holds b xs ≡ false → begins b xs ≡ false
begins_whole b [] h = refl
begins_whole b (x ∷ xs) h = (or_parts (eqb x b) (holds b xs) h).0
