-- What a sheet keeps, from one state to the next. Assumes nothing.
use Rattle.std.proofs.Common.{◌≡◌, ℕ, ◌+◌, ◌-◌, ◌<◌, ◌≤◌, true, List, [], ◌∷◌, ◌++◌, is_some, length, get_or, take, drop, set, replicate, Some, None, Option, sym, ap, ◌∙◌, subst, arith}
use Rattle.std.proofs.Math.Nat.{add-zero, sub-zero}
use Rattle.std.specs.List.{concat, slice_get}
use Rattle.std.specs.Option.{option_map, unwrap_or}
use Rattle.std.proofs.lemmas.List.{append-nil, length-drop, length-set, length-take-le, take-append-drop, take-take, take_all, take_more_set, drop-append-le, drop_all, drop-set-lt, drop-take, get_or-take}
use Rattle.std.proofs.lemmas.Option.{slice_get_past}
use Rattle.std.proofs.lemmas.Slice.{take-put_mid, take-put_mid_below}
use Rattle.text.specs.declared.refusals.Refusal.TheVariants.{NoSpace}
use Rattle.sinks.specs.Sinks.{Held, refusal, first_bar, write_told, written, finished}
use borrow.Rule.Slice.PartMut.{put_mid}
use Rattle.sheet.specs.Rows.{Chained, chained, cut_up, ClearFrom}
use Rattle.sheet.specs.Sheet.{places, rules_at, content, filled, filled_rows}
use Rattle.sheet.specs.State.{held, beyond}
use Rattle.sheet.specs.declared.state.Sheet.{Sheet}
use Rattle.sheet.proofs.Rowing as row

module _ (s : Sheet) where
  abbrev bytes : List ℕ
  bytes = s.bytes.now

  abbrev pairs : List (ℕ × ℕ)
  pairs = s.pairs.now

  abbrev rows : List (ℕ × ℕ)
  rows = take s.count pairs

  abbrev text : List ℕ
  text = take s.finished bytes

  -- so many bytes of the open argument
  abbrev tail : ℕ → List ℕ
  tail n = take n (drop s.finished bytes)

  abbrev at : Option ℕ → Held
  at o = record { list = cut_up rows text; pending = option_map tail o }

  abbrev used : ℕ
  used = s.finished + unwrap_or s.pending 0

  pub limit_fits : (s.limit ≤ length bytes) × (s.limit ≤ 65535)
  limit_fits = (omega (arith, s.limited), omega (arith, s.limited))

  text_long : length text ≡ s.finished
  text_long = length-take-le s.finished bytes (omega (arith, limit_fits, s.within))

  text_spans : length text ≡ s.finished - 0
  text_spans = text_long ∙ omega arith

  rows_long : length rows ≡ s.count
  rows_long = length-take-le s.count pairs s.few

  chain : Chained 0 rows s.finished
  chain = row.chained_from 0 rows s.finished s.lined

  pub number_is : s.count ≡ length (held s).list
  number_is = sym (row.length-cut_up rows text ∙ rows_long)

  concat_is : concat (held s).list ≡ text
  concat_is = row.concat-cut_up 0 rows s.finished text chain text_spans

  both : (n : ℕ) → text ++ tail n ≡ take (s.finished + n) bytes
  both n =
      (λ i. sym (take-take s.finished (s.finished + n) bytes (omega arith)) i ++ sym (drop-take s.finished n bytes) i)
      ∙ take-append-drop s.finished (take (s.finished + n) bytes)

  content_is : (o : Option ℕ) → content (at o) ≡ take (s.finished + unwrap_or o 0) bytes
  content_is None = ap concat (append-nil (cut_up rows text)) ∙ concat_is ∙ ap (λ n. take n bytes) (sym (add-zero s.finished))
  content_is (Some n) = row.concat_push (cut_up rows text) (tail n) ∙ ap (λ l. l ++ tail n) concat_is ∙ both n

  pub every_byte : bytes ≡ filled s.limit (content (held s)) (beyond s)
  every_byte =
      let long : length (take used bytes) ≡ used = length-take-le used bytes (omega (arith, limit_fits, s.within)) in
      sym (take-append-drop used bytes) ∙ ap (λ l. take used bytes ++ l) s.zeros
      ∙ ap (λ n. take used bytes ++ (replicate (s.limit - n) 0 ++ beyond s)) (sym long)
      ∙ ap (λ l. filled s.limit l (beyond s)) (sym (content_is s.pending))

  pub every_pair : pairs ≡ filled_rows (length pairs) (places 0 (held s).list)
  every_pair =
      let none : drop (length pairs) pairs ≡ [] = drop_all (length pairs) pairs (omega arith) in
      let rest : drop s.count pairs ≡ replicate (length pairs - s.count) (0, 0) = s.blank ∙ ap (λ l. replicate (length pairs - s.count) (0, 0) ++ l) none ∙ append-nil (replicate (length pairs - s.count) (0, 0)) in
      sym (take-append-drop s.count pairs) ∙ ap (λ l. rows ++ l) rest ∙ ap (λ n. rows ++ replicate (length pairs - n) (0, 0)) (sym rows_long)
      ∙ ap (filled_rows (length pairs)) (sym (row.places-cut_up 0 rows s.finished text chain text_spans))

  -- the argument of a row
  module _ (n : ℕ) (d : ℕ × ℕ) (in' : n < s.count) where
    abbrev p : ℕ × ℕ
    p = get_or pairs n d

    in_rows : n < length rows
    in_rows = omega (arith, rows_long)

    read : get_or rows n d ≡ p
    read = get_or-take s.count pairs n d in'

    pub row_end : p.0 + p.1 ≤ s.finished
    row_end = subst (λ (q : ℕ × ℕ). q.0 + q.1 ≤ s.finished) read (row.chained_end 0 rows s.finished n d chain in_rows)

    pub argument_is : slice_get (held s).list n ≡ Some (take p.1 (drop p.0 bytes))
    argument_is =
        let sum : s.finished ≡ p.0 + (s.finished - p.0) = omega (arith, row_end) in
        let same : take p.1 (drop p.0 text) ≡ take p.1 (drop p.0 bytes) = ap (λ m. take p.1 (drop p.0 (take m bytes))) sum ∙ ap (take p.1) (drop-take p.0 (s.finished - p.0) bytes) ∙ take-take p.1 (s.finished - p.0) (drop p.0 bytes) (omega (arith, row_end)) in
        row.nth-cut_up 0 rows s.finished n text d chain in_rows ∙ ap (λ (q : ℕ × ℕ). Some (take q.1 (drop (q.0 - 0) text))) read
        ∙ ap (λ m. Some (take p.1 (drop m text))) (sub-zero p.0) ∙ ap Some same

    row_lined : Chained 0 (take n rows) p.0
    row_lined = subst (λ (q : ℕ × ℕ). Chained 0 (take n rows) q.0) read (row.chained_take 0 rows s.finished n d chain in_rows)

    row_list : cut_up (take n rows) (take p.0 text) ≡ take n (held s).list
    row_list = ap (λ m. cut_up (take n rows) (take m text)) (sym (sub-zero p.0)) ∙ ap (λ (q : ℕ × ℕ). cut_up (take n rows) (take (q.0 - 0) text)) (sym read) ∙ row.take-cut_up 0 rows s.finished n text d chain in_rows

  pub no_argument : (n : ℕ) → s.count ≤ n → None ≡ slice_get (held s).list n
  no_argument n past = sym (slice_get_past (held s).list n (omega (arith, number_is)))

  -- a part of the buffer is written
  module _ (from k : ℕ) (ys : List ℕ) (fit : from + k ≤ s.limit) (same : length ys ≡ length (take k (drop from bytes))) where
    pub write_beyond : drop s.limit (put_mid from k bytes ys) ≡ beyond s
    write_beyond = row.beyond_kept s.limit from k bytes ys fit limit_fits.0 same

  -- an open argument
  module _ (n : ℕ) (open' : s.pending ≡ Some n) where
    pub open_end : used ≡ s.finished + n
    open_end = ap (λ o. s.finished + unwrap_or o 0) open'

    tail_long : length (tail n) ≡ n
    tail_long = length-take-le n (drop s.finished bytes) (omega (arith, limit_fits, s.within, open_end, length-drop s.finished bytes))

    total_is : length (concat (held s).list) ≡ s.finished
    total_is = ap length concat_is ∙ text_long

    write_is : (bs : List ℕ) → write_told (rules_at s.limit (length pairs)) (held s) bs ≡ option_map refusal (first_bar (rules_at s.limit (length pairs)) (held s).list (tail n) bs)
    write_is bs = ap (λ o. write_told (rules_at s.limit (length pairs)) (at o) bs) open'

    pub write_fits : (bs : List ℕ) → s.finished + n + length bs ≤ s.limit → None ≡ write_told (rules_at s.limit (length pairs)) (held s) bs
    write_fits bs h = sym (write_is bs ∙ ap (option_map refusal) (row.all_fit s.limit (length pairs) (held s).list (tail n) bs (omega (arith, total_is, tail_long))))

    pub write_full : (bs : List ℕ) → s.limit < s.finished + n + length bs → Some NoSpace ≡ write_told (rules_at s.limit (length pairs)) (held s) bs
    write_full bs h =
        sym (write_is bs ∙ ap (option_map refusal) (row.not_all_fit s.limit (length pairs) (held s).list (tail n) bs (omega (arith, total_is, tail_long, s.within, open_end)) (omega (arith, total_is, tail_long))))

    -- bytes are added
    module _ (bs ys : List ℕ) (k : ℕ) (long : k ≡ length bs) (fit : s.finished + n + length bs ≤ s.limit) (is : ys ≡ bs) (same : length ys ≡ length (take k (drop (s.finished + n) bytes))) where
      abbrev added : List ℕ
      added = put_mid (s.finished + n) k bytes ys

      pub add_zeros : ClearFrom 0 s.limit (s.finished + (n + length bs)) added
      add_zeros =
          let was : ClearFrom 0 s.limit (s.finished + n) bytes = subst (λ m. ClearFrom 0 s.limit m bytes) open_end s.zeros in
          let sum : s.finished + n + k ≡ s.finished + (n + length bs) = omega arith in
          let later : ClearFrom 0 s.limit (s.finished + (n + length bs)) bytes = subst (λ m. ClearFrom 0 s.limit m bytes) sum (row.clear_later 0 s.limit (s.finished + n) k bytes (omega arith) was) in
          row.clear_behind s.limit (s.finished + n) k bytes ys (omega arith) limit_fits.0 same 0 (s.finished + (n + length bs)) sum later

      pub add_holds : record { list = cut_up rows (take s.finished added); pending = Some (take (n + length bs) (drop s.finished added)) } ≡ written None bs (held s)
      add_holds =
          let in' : s.finished + n ≤ length bytes = omega (arith, limit_fits) in
          let text' : take s.finished added ≡ text = take-put_mid_below (s.finished + n) k bytes ys s.finished (omega arith) in' in
          let front : s.finished ≤ length (take (s.finished + n) bytes) = omega (arith, length-take-le (s.finished + n) bytes in') in
          let tail' : take (n + length bs) (drop s.finished added) ≡ tail n ++ bs =
          sym (drop-take s.finished (n + length bs) added) ∙ ap (drop s.finished) (take-put_mid (s.finished + n) k bytes ys (s.finished + (n + length bs)) (omega (arith, ap length is)) in')
          ∙ drop-append-le s.finished (take (s.finished + n) bytes) ys front ∙ (λ i. drop-take s.finished n bytes i ++ is i) in
          (λ i. record { list = cut_up rows (text' i); pending = Some (tail' i) }) ∙ sym (ap (λ o. written None bs (at o)) open')

    -- the open argument gets its row
    module _ (p : ℕ × ℕ) (is : p ≡ (s.finished, n)) where
      abbrev sealed : List (ℕ × ℕ)
      sealed = set pairs s.count p

      has_row : s.count < length pairs
      has_row = s.row (ap is_some open')

      sealed_long : length sealed ≡ length pairs
      sealed_long = length-set pairs s.count p

      pub seal_few : s.count + 1 ≤ length sealed
      seal_few = omega (arith, sealed_long, has_row)

      pub seal_zeros : ClearFrom 0 s.limit (s.finished + n + 0) bytes
      seal_zeros = subst (λ m. ClearFrom 0 s.limit m bytes) (open_end ∙ sym (add-zero (s.finished + n))) s.zeros

      pub seal_blank : ClearFrom (0, 0) (length sealed) (s.count + 1) sealed
      seal_blank =
          let same : drop (s.count + 1) sealed ≡ drop (s.count + 1) pairs = drop-set-lt (s.count + 1) pairs s.count p (omega arith) in
          same ∙ row.clear_later (0, 0) (length pairs) s.count 1 pairs (omega (arith, has_row)) s.blank
          ∙ (λ i. replicate (sym sealed_long i - (s.count + 1)) (0, 0) ++ (drop_all (length pairs) pairs (omega arith) ∙ sym (drop_all (length sealed) sealed (omega arith))) i)

      rows_more : take (s.count + 1) sealed ≡ rows ++ (s.finished, n) ∷ []
      rows_more = take_more_set pairs s.count p has_row ∙ ap (λ q. rows ++ q ∷ []) is

      pub seal_lined : chained 0 (take (s.count + 1) sealed) (s.finished + n) ≡ true
      seal_lined = row.chained_to 0 (take (s.count + 1) sealed) (s.finished + n) (subst (λ l. Chained 0 l (s.finished + n)) (sym rows_more) (row.chained_push 0 rows s.finished n chain))

      pub seal_holds : record { list = cut_up (take (s.count + 1) sealed) (take (s.finished + n) bytes); pending = None } ≡ finished None (held s)
      seal_holds =
          ap (λ l. record { list = l; pending = None })
          ((λ i. cut_up (rows_more i) (sym (both n) i)) ∙ row.cut_up_push 0 rows s.finished n text (tail n) chain text_spans tail_long)
          ∙ sym (ap (λ o. finished None (at o)) open')

  -- all but the first n arguments are dropped
  module _ (shut : s.pending ≡ None) (n end : ℕ) (d : ℕ × ℕ) (in' : n < s.count) (is : end ≡ (get_or pairs n d).0) where
    pub cut_end : end ≤ s.finished
    cut_end = omega (arith, is, row_end n d in')

    shut_at : (place : ℕ) → place + unwrap_or s.pending 0 ≡ place
    shut_at place = ap (λ o. place + unwrap_or o 0) shut ∙ add-zero place

    pub cut_within : s.finished ≤ s.limit
    cut_within = omega (arith, s.within)

    -- its bytes are zero, and its rows
    module _ (new : List ℕ) (behind : (m : ℕ) → s.finished ≤ m → drop m new ≡ drop m bytes) where
      -- the rows still as they were
      pub first_zeros : ClearFrom 0 s.limit used new
      first_zeros = behind used (omega arith) ∙ s.zeros ∙ ap (λ l. replicate (s.limit - used) 0 ++ l) (sym (behind s.limit cut_within))

      pub cut_zeros : drop end new ≡ replicate (s.finished - end) 0 ++ drop s.finished bytes → ClearFrom 0 s.limit (end + unwrap_or s.pending 0) new
      cut_zeros zeros =
          let was : ClearFrom 0 s.limit s.finished bytes = subst (λ m. ClearFrom 0 s.limit m bytes) (shut_at s.finished) s.zeros in
          subst (λ m. ClearFrom 0 s.limit m new) (sym (shut_at end)) (row.clear_more 0 s.limit end s.finished bytes new cut_end cut_within zeros (behind s.limit cut_within) was)

      module _ (zs : List (ℕ × ℕ)) (same' : length zs ≡ length (take (s.count - n) (drop n pairs))) where
        abbrev kept : List (ℕ × ℕ)
        kept = put_mid n (s.count - n) pairs zs

        fit : n + (s.count - n) ≤ length pairs
        fit = omega (arith, s.few)

        pub cut_long : length kept ≡ length pairs
        cut_long = row.length_kept (length pairs) n (s.count - n) pairs zs fit (omega arith) same'

        pub cut_blank : zs ≡ replicate (length (take (s.count - n) (drop n pairs))) (0, 0) → ClearFrom (0, 0) (length kept) n kept
        cut_blank is' =
            let up : n + (s.count - n) ≡ s.count = omega arith in
            let zeros' : drop n kept ≡ replicate (s.count - n) (0, 0) ++ drop s.count pairs = row.part_zeros (length pairs) n (s.count - n) pairs zs fit (omega arith) same' (0, 0) is' ∙ ap (λ m. replicate (s.count - n) (0, 0) ++ drop m pairs) up in
            subst (λ m. ClearFrom (0, 0) m n kept) (sym cut_long) (row.clear_more (0, 0) (length pairs) n s.count pairs kept (omega arith) s.few zeros' (row.beyond_kept (length pairs) n (s.count - n) pairs zs fit (omega arith) same') s.blank)

        same_rows : take n kept ≡ take n rows
        same_rows = take-put_mid_below n (s.count - n) pairs zs n (omega arith) (omega (arith, s.few)) ∙ sym (take-take n s.count pairs (omega arith))

        pub cut_lined : chained 0 (take n kept) end ≡ true
        cut_lined = (λ i. chained 0 (same_rows i) (is i)) ∙ row.chained_to 0 (take n rows) (get_or pairs n d).0 (row_lined n d in')

        pub cut_holds : take end new ≡ take end bytes → ◌≡◌ {A = Held} (record { list = cut_up (take n kept) (take end new); pending = option_map (λ m. take m (drop end new)) s.pending }) (record { list = take n (held s).list; pending = None })
        cut_holds front =
            let text' : take end new ≡ take end text = front ∙ sym (take-take end s.finished bytes cut_end) in
            let list' : cut_up (take n kept) (take end new) ≡ take n (held s).list = (λ i. cut_up (same_rows i) (text' i)) ∙ ap (λ m. cut_up (take n rows) (take m text)) is ∙ row_list n d in' in
            λ i. record { list = list' i; pending = option_map (λ m. take m (drop end new)) (shut i) }

  pub all_kept : s.pending ≡ None → (n : ℕ) → s.count ≤ n → held s ≡ record { list = take n (held s).list; pending = None }
  all_kept shut n few = λ i. record { list = sym (take_all n (held s).list (omega (arith, number_is))) i; pending = option_map tail (shut i) }
