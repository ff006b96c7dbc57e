-- Rows that lie back to back, what they cut a text into, and zeros behind them. Assumes nothing.
use Rattle.std.proofs.Common.{◌≡◌, ℕ, zero, suc, ◌+◌, ◌-◌, ◌<◌, ◌≤◌, true, cond, eqb, List, [], ◌∷◌, ◌++◌, length, get_or, take, drop, replicate, Some, None, sym, refl, ap, ◌∙◌, ⊎_elim, arith}
use Rattle.std.specs.List.{concat, slice_get}
use Rattle.std.proofs.lemmas.List.{append_assoc, append-nil, length-append, length-drop, length-take-le, length-replicate, nil_from_length, take_all, take-append-le, take-append-drop, take-take, drop-append-le, drop-drop, drop-replicate, drop-take, replicate-append-replicate}
use Rattle.std.proofs.lemmas.List.Folds.{concat-append}
use Rattle.std.proofs.lemmas.Slice.{drop-put_mid}
use Rattle.std.proofs.lemmas.Bool.{cases_lt, le-leb, lt-leb, eqb-true, eq-eqb, and_parts, and_from}
use borrow.Rule.Slice.PartMut.{put_mid}
use Rattle.sinks.specs.Sinks.{full, or_else, first_bar}
use Rattle.sinks.proofs.Spaces.{length-put_mid, put_here}
use Rattle.sheet.specs.Rows.{Chained, chained, cut_up, ClearFrom}
use Rattle.sheet.specs.Sheet.{places, rules_at}

pub chained_from : (at : ℕ) (ps : List (ℕ × ℕ)) (end : ℕ) → chained at ps end ≡ true → Chained at ps end
chained_from at [] end e = eqb-true at end e
chained_from at (p ∷ ps) end e = let parts = and_parts (eqb p.0 at) (chained (at + p.1) ps end) e in (eqb-true p.0 at parts.0, chained_from (at + p.1) ps end parts.1)

pub chained_to : (at : ℕ) (ps : List (ℕ × ℕ)) (end : ℕ) → Chained at ps end → chained at ps end ≡ true
chained_to at [] end c = eq-eqb at end c
chained_to at (p ∷ ps) end c = and_from (eqb p.0 at) (chained (at + p.1) ps end) (eq-eqb p.0 at c.0) (chained_to (at + p.1) ps end c.1)

pub chained_le : (at : ℕ) (ps : List (ℕ × ℕ)) (end : ℕ) → Chained at ps end → at ≤ end
chained_le at [] end c = omega arith
chained_le at (p ∷ ps) end c = let rest = chained_le (at + p.1) ps end c.1 in omega arith

pub length-cut_up : (ps : List (ℕ × ℕ)) (text : List ℕ) → length (cut_up ps text) ≡ length ps
length-cut_up [] text = refl
length-cut_up (p ∷ ps) text = ap suc (length-cut_up ps (drop p.1 text))

pub concat_push : (list : List (List ℕ)) (a : List ℕ) → concat (list ++ a ∷ []) ≡ concat list ++ a
concat_push list a = concat-append list (a ∷ []) ∙ ap (λ l. concat list ++ l) (append-nil a)

pub concat-cut_up : (at : ℕ) (ps : List (ℕ × ℕ)) (end : ℕ) (text : List ℕ) → Chained at ps end → length text ≡ end - at → concat (cut_up ps text) ≡ text
concat-cut_up at [] end text c l = sym (nil_from_length text (omega arith))
concat-cut_up at (p ∷ ps) end text c l =
    let le = chained_le (at + p.1) ps end c.1 in
    ap (λ t. take p.1 text ++ t) (concat-cut_up (at + p.1) ps end (drop p.1 text) c.1 (length-drop p.1 text ∙ omega arith)) ∙ take-append-drop p.1 text

pub places-cut_up : (at : ℕ) (ps : List (ℕ × ℕ)) (end : ℕ) (text : List ℕ) → Chained at ps end → length text ≡ end - at → places at (cut_up ps text) ≡ ps
places-cut_up at [] end text c l = refl
places-cut_up at (p ∷ ps) end text c l =
    let le = chained_le (at + p.1) ps end c.1 in
    let n : length (take p.1 text) ≡ p.1 = length-take-le p.1 text (omega arith) in
    (λ i. (sym c.0 i, n i) ∷ places (at + n i) (cut_up ps (drop p.1 text)))
    ∙ ap (λ l. p ∷ l) (places-cut_up (at + p.1) ps end (drop p.1 text) c.1 (length-drop p.1 text ∙ omega arith))

-- one row more
pub chained_push : (at : ℕ) (ps : List (ℕ × ℕ)) (end n : ℕ) → Chained at ps end → Chained at (ps ++ (end, n) ∷ []) (end + n)
chained_push at [] end n c = (sym c, ap (λ m. m + n) c)
chained_push at (p ∷ ps) end n c = (c.0, chained_push (at + p.1) ps end n c.1)

pub cut_up_push : (at : ℕ) (ps : List (ℕ × ℕ)) (end n : ℕ) (text more : List ℕ) → Chained at ps end → length text ≡ end - at → length more ≡ n → cut_up (ps ++ (end, n) ∷ []) (text ++ more) ≡ cut_up ps text ++ more ∷ []
cut_up_push at [] end n text more c l m =
    let none : text ≡ [] = nil_from_length text (omega arith) in
    ap (λ t. take n (t ++ more) ∷ []) none ∙ ap (λ t. t ∷ []) (take_all n more (omega arith))
cut_up_push at (p ∷ ps) end n text more c l m =
    let le = chained_le (at + p.1) ps end c.1 in
    let fit : p.1 ≤ length text = omega arith in
    (λ i. take-append-le p.1 text more fit i ∷ cut_up (ps ++ (end, n) ∷ []) (drop-append-le p.1 text more fit i))
    ∙ ap (λ l. take p.1 text ∷ l) (cut_up_push (at + p.1) ps end n (drop p.1 text) more c.1 (length-drop p.1 text ∙ omega arith) m)

-- where a row lies
pub chained_at : (at : ℕ) (ps : List (ℕ × ℕ)) (end n : ℕ) (d : ℕ × ℕ) → Chained at ps end → n < length ps → at ≤ (get_or ps n d).0
chained_at at [] end n d c h = absurd (omega arith)
chained_at at (p ∷ ps) end zero d c h = omega (arith, c.0)
chained_at at (p ∷ ps) end (suc n) d c h = let rest = chained_at (at + p.1) ps end n d c.1 (omega arith) in omega arith

pub chained_end : (at : ℕ) (ps : List (ℕ × ℕ)) (end n : ℕ) (d : ℕ × ℕ) → Chained at ps end → n < length ps → (get_or ps n d).0 + (get_or ps n d).1 ≤ end
chained_end at [] end n d c h = absurd (omega arith)
chained_end at (p ∷ ps) end zero d c h = let le = chained_le (at + p.1) ps end c.1 in omega (arith, c.0)
chained_end at (p ∷ ps) end (suc n) d c h = chained_end (at + p.1) ps end n d c.1 (omega arith)

-- the argument of a row
pub nth-cut_up : (at : ℕ) (ps : List (ℕ × ℕ)) (end n : ℕ) (text : List ℕ) (d : ℕ × ℕ) → Chained at ps end → n < length ps → slice_get (cut_up ps text) n ≡ Some (take (get_or ps n d).1 (drop ((get_or ps n d).0 - at) text))
nth-cut_up at [] end n text d c h = absurd (omega arith)
nth-cut_up at (p ∷ ps) end zero text d c h = let none : p.0 - at ≡ 0 = omega (arith, c.0) in ap (λ k. Some (take p.1 (drop k text))) (sym none)
nth-cut_up at (p ∷ ps) end (suc n) text d c h =
    let le = chained_at (at + p.1) ps end n d c.1 (omega arith) in
    let sum : p.1 + ((get_or ps n d).0 - (at + p.1)) ≡ (get_or ps n d).0 - at = omega arith in
    nth-cut_up (at + p.1) ps end n (drop p.1 text) d c.1 (omega arith) ∙ ap (λ t. Some (take (get_or ps n d).1 t)) (drop-drop ((get_or ps n d).0 - (at + p.1)) p.1 text ∙ ap (λ k. drop k text) sum)

-- the rows before a row
pub chained_take : (at : ℕ) (ps : List (ℕ × ℕ)) (end n : ℕ) (d : ℕ × ℕ) → Chained at ps end → n < length ps → Chained at (take n ps) (get_or ps n d).0
chained_take at [] end n d c h = absurd (omega arith)
chained_take at (p ∷ ps) end zero d c h = sym c.0
chained_take at (p ∷ ps) end (suc n) d c h = (c.0, chained_take (at + p.1) ps end n d c.1 (omega arith))

pub take-cut_up : (at : ℕ) (ps : List (ℕ × ℕ)) (end n : ℕ) (text : List ℕ) (d : ℕ × ℕ) → Chained at ps end → n < length ps → cut_up (take n ps) (take ((get_or ps n d).0 - at) text) ≡ take n (cut_up ps text)
take-cut_up at [] end n text d c h = absurd (omega arith)
take-cut_up at (p ∷ ps) end zero text d c h = refl
take-cut_up at (p ∷ ps) end (suc n) text d c h =
    let le = chained_at (at + p.1) ps end n d c.1 (omega arith) in
    let sum : (get_or ps n d).0 - at ≡ p.1 + ((get_or ps n d).0 - (at + p.1)) = omega arith in
    (λ i. take-take p.1 ((get_or ps n d).0 - at) text (omega arith) i ∷ cut_up (take n ps) ((ap (λ m. drop p.1 (take m text)) sum ∙ drop-take p.1 ((get_or ps n d).0 - (at + p.1)) text) i))
    ∙ ap (λ l. take p.1 text ∷ l) (take-cut_up (at + p.1) ps end n (drop p.1 text) d c.1 (omega arith))

-- all the bytes of an argument fit, or the first that does not is told
pub all_fit : (limit rows : ℕ) (list : List (List ℕ)) (a bs : List ℕ) → length (concat list) + length a + length bs ≤ limit → first_bar (rules_at limit rows) list a bs ≡ None
all_fit limit rows list a [] h = refl
all_fit limit rows list a (b ∷ bs) h =
    ap (λ t. or_else (cond t None (Some full)) (first_bar (rules_at limit rows) list (a ++ b ∷ []) bs)) (le-leb (length (concat list) + length a + 1) limit (omega arith))
    ∙ all_fit limit rows list (a ++ b ∷ []) bs (omega (arith, length-append a (b ∷ [])))

pub not_all_fit : (limit rows : ℕ) (list : List (List ℕ)) (a bs : List ℕ) → length (concat list) + length a ≤ limit → limit < length (concat list) + length a + length bs → first_bar (rules_at limit rows) list a bs ≡ Some full
not_all_fit limit rows list a [] fit h = absurd (omega arith)
not_all_fit limit rows list a (b ∷ bs) fit h =
    ⊎_elim
    (λ (lt : length (concat list) + length a < limit).
    ap (λ t. or_else (cond t None (Some full)) (first_bar (rules_at limit rows) list (a ++ b ∷ []) bs)) (le-leb (length (concat list) + length a + 1) limit (omega arith))
    ∙ not_all_fit limit rows list (a ++ b ∷ []) bs (omega (arith, length-append a (b ∷ []))) (omega (arith, length-append a (b ∷ []))))
    (λ (le : limit ≤ length (concat list) + length a).
    ap (λ t. or_else (cond t None (Some full)) (first_bar (rules_at limit rows) list (a ++ b ∷ []) bs)) (lt-leb (length (concat list) + length a + 1) limit (omega arith)))
    (cases_lt (length (concat list) + length a) limit)

-- zeros from a later place on
pub clear_later : {X : Type 0} (z : X) (limit at k : ℕ) (xs : List X) → at + k ≤ limit → ClearFrom z limit at xs → ClearFrom z limit (at + k) xs
clear_later z limit at k xs in' e =
    let fit : k ≤ length (replicate (limit - at) z) = omega (arith, length-replicate (limit - at) z) in
    let sum : limit - at - k ≡ limit - (at + k) = omega arith in
    sym (drop-drop k at xs) ∙ ap (drop k) e ∙ drop-append-le k (replicate (limit - at) z) (drop limit xs) fit
    ∙ ap (λ l. l ++ drop limit xs) (drop-replicate k (limit - at) z ∙ ap (λ n. replicate n z) sum)

-- after a write of k elements
module _ {X : Type 0} (limit at k : ℕ) (xs ys : List X) (in' : at + k ≤ limit) (long : limit ≤ length xs) (same : length ys ≡ length (take k (drop at xs))) where
  abbrev after : List X
  after = put_mid at k xs ys

  part_long : length (take k (drop at xs)) ≡ k
  part_long = length-take-le k (drop at xs) (omega (arith, length-drop at xs))

  pub beyond_kept : drop limit after ≡ drop limit xs
  beyond_kept = drop-put_mid at k xs ys limit in' (omega arith) (same ∙ part_long)

  pub length_kept : length after ≡ length xs
  length_kept = length-put_mid xs ys at k (omega arith) (same ∙ part_long)

  pub clear_behind : (z : X) (end : ℕ) → at + k ≡ end → ClearFrom z limit end xs → ClearFrom z limit end after
  clear_behind z end up e = drop-put_mid at k xs ys end (omega arith) (omega arith) (same ∙ part_long) ∙ e ∙ ap (λ l. replicate (limit - end) z ++ l) (sym beyond_kept)

  pub part_zeros : (z : X) → ys ≡ replicate (length (take k (drop at xs))) z → drop at after ≡ replicate k z ++ drop (at + k) xs
  part_zeros z is = put_here xs ys at k (omega arith) (same ∙ part_long) ∙ ap (λ l. l ++ drop (at + k) xs) (is ∙ ap (λ n. replicate n z) part_long)

-- after zeros in a part
pub clear_more : {X : Type 0} (z : X) (limit from to : ℕ) (xs new : List X) → from ≤ to → to ≤ limit → drop from new ≡ replicate (to - from) z ++ drop to xs → drop limit new ≡ drop limit xs → ClearFrom z limit to xs → ClearFrom z limit from new
clear_more z limit from to xs new order in' zeros same e =
    let sum : to - from + (limit - to) ≡ limit - from = omega arith in
    zeros ∙ ap (λ l. replicate (to - from) z ++ l) e ∙ sym (append_assoc (replicate (to - from) z) (replicate (limit - to) z) (drop limit xs))
    ∙ (λ i. (replicate-append-replicate (to - from) (limit - to) z ∙ ap (λ n. replicate n z) sum) i ++ sym same i)
