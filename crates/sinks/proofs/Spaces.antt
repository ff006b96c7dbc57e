-- A borrowed space whose front is in use and whose rest is zero. Assumes nothing.
use Rattle.std.proofs.Common.{◌≡◌, ℕ, ◌+◌, ◌-◌, ◌<◌, ◌≤◌, List, ◌++◌, length, take, drop, set, replicate, sym, ap, ◌∙◌, arith}
use Rattle.std.proofs.lemmas.Slice.{drop-put_mid}
use borrow.Rule.Slice.PartMut.{put_mid}
use Rattle.std.proofs.lemmas.List.{length-append, length-set, length-take-le, length-drop, take-append-drop, drop-drop, drop_at, drop-set-lt, drop-replicate, replicate-append-replicate}

module _ {X : Type 0} (xs : List X) (at : ℕ) (in' : at < length xs) (zero : X) where
  -- one place more is used
  pub one_zero_less : (x : X) → drop at xs ≡ replicate (length xs - at) zero → drop (at + 1) (set xs at x) ≡ replicate (length (set xs at x) - (at + 1)) zero
  one_zero_less x z =
      let before : at < at + 1 = omega arith in
      let sum : (length xs - at) - 1 ≡ length (set xs at x) - (at + 1) = omega (arith, length-set xs at x) in
      drop-set-lt (at + 1) xs at x before ∙ sym (drop-drop 1 at xs) ∙ ap (drop 1) z ∙ drop-replicate 1 (length xs - at) zero ∙ ap (λ n. replicate n zero) sum

-- the part of a space behind a place, written at once
module _ {X : Type 0} (xs ys : List X) (at k : ℕ) (in' : at + k ≤ length xs) (fits : length ys ≡ k) where
  abbrev after : List X
  after = put_mid at k xs ys

  pub length-put_mid : length after ≡ length xs
  length-put_mid = simp length-append (omega (arith, length-take-le at xs (omega arith), fits, length-drop k (drop at xs), length-drop at xs))

  pub put_here : drop at after ≡ ys ++ drop (at + k) xs
  put_here = drop_at (take at xs) (ys ++ drop k (drop at xs)) at (length-take-le at xs (omega arith)) ∙ ap (λ l. ys ++ l) (drop-drop k at xs)

  -- used from there on
  pub zeros_less : (zero : X) → drop at xs ≡ replicate (length xs - at) zero → drop (at + k) after ≡ replicate (length after - (at + k)) zero
  zeros_less zero z =
      let rest : length xs - at - k ≡ length after - (at + k) = omega (arith, length-put_mid) in
      drop-put_mid at k xs ys (at + k) (omega arith) (omega arith) fits ∙ sym (drop-drop k at xs) ∙ ap (drop k) z ∙ drop-replicate k (length xs - at) zero ∙ ap (λ n. replicate n zero) rest

  -- used no more
  pub zeros_more : (zero : X) → ys ≡ replicate k zero → drop (at + k) xs ≡ replicate (length xs - (at + k)) zero → drop at after ≡ replicate (length after - at) zero
  zeros_more zero is z =
      let rest : k + (length xs - (at + k)) ≡ length after - at = omega (arith, length-put_mid) in
      put_here ∙ (λ i. is i ++ z i) ∙ replicate-append-replicate k (length xs - (at + k)) zero ∙ ap (λ n. replicate n zero) rest

-- all of a space whose rest is zero
pub front_and_zeros : {X : Type 0} (xs : List X) (used : ℕ) (zero : X) → used ≤ length xs → drop used xs ≡ replicate (length xs - used) zero → xs ≡ take used xs ++ replicate (length xs - length (take used xs)) zero
front_and_zeros xs used zero in' z = sym (take-append-drop used xs) ∙ ap (λ l. take used xs ++ l) (z ∙ ap (λ n. replicate (length xs - n) zero) (sym (length-take-le used xs in')))
