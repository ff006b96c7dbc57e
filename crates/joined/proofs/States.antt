-- What a joined sink keeps, from one state to the next. Assumes nothing.
use Rattle.std.proofs.Common.{◌≡◌, ℕ, ◌+◌, ◌-◌, ◌<◌, ◌≤◌, Bool, true, false, cond, eqb, List, [], ◌∷◌, ◌++◌, length, take, drop, set, replicate, Some, None, Option, Ok, Err, Result, OnOk, sym, refl, ap, ◌∙◌, subst, ⊎_elim, arith}
use Rattle.std.specs.Option.{option_map, option_to_list, is_some}
use Rattle.std.proofs.lemmas.List.{append-nil, length-append, length-set, length-take-le, length-drop, take-set-le, take_more_set, drop-append-le, drop_all, length-replicate}
use Rattle.std.proofs.lemmas.Slice.{take-put_mid_below, take-put_mid}
use Rattle.std.proofs.lemmas.Bool.{both_ways, cases_lt, eq-eqb, ne_eqb}
use borrow.Rule.Slice.PartMut.{put_mid}
use Rattle.text.specs.declared.refusals.Refusal.{Refusal}
use Rattle.text.specs.declared.refusals.Refusal.TheVariants.{NoSpace}
use Rattle.text.specs.Arguments.{separator, arguments, join}
use Rattle.text.specs.Cuts.{holds, begins}
use Rattle.text.proofs.Joining.{joins_back, length-arguments, occurrences-le-length}
use Rattle.sinks.specs.Sinks.{Held, verdict, refusal, written, begin_told, write_told}
use Rattle.sinks.proofs.Spaces.{one_zero_less, length-put_mid, zeros_less, zeros_more, front_and_zeros}
use Rattle.joined.specs.Joined.{rules_at, room, content, filled}
use Rattle.joined.specs.Parts.{bytes_bar, ClearFrom, Text}
use Rattle.joined.specs.State.{held, size, CanBegin, CanWrite, CanFinish}
use Rattle.joined.specs.declared.state.Joined.{Joined}
use Rattle.joined.proofs.Texts.{holds-append, no_text_room, text_room, text_no_room, join_grown, join_behind, first_bar_is, bytes_fit, args_more, begins_take, begins_whole}

none_at : (t : Bool) → t ≡ false → cond t 1 0 ≤ 0
none_at true e = absurd (both_ways true e refl)
none_at false e = omega arith

-- a text has at least as many bytes as arguments
few_arguments : (bs : List ℕ) → begins separator bs ≡ false → length (arguments bs) ≤ length bs
few_arguments [] s = omega arith
few_arguments (x ∷ xs) s = omega (arith, none_at (eqb x separator) s, length-arguments (x ∷ xs) (omega arith), occurrences-le-length separator xs)

-- bytes were written behind the used ones
pub record Written (old new : List ℕ) (used : ℕ) (bs : List ℕ) : Type 0 where
  pub long : length new ≡ length old
  pub front : (n : ℕ) → n ≤ used → take n new ≡ take n old
  pub all : take (used + length bs) new ≡ take used old ++ bs
  pub clear : ClearFrom used old → ClearFrom (used + length bs) new

pub written_by_set : (old : List ℕ) (used b : ℕ) → used < length old → Written old (set old used b) used (b ∷ [])
written_by_set old used b in' = record {
  long = length-set old used b;
  front = λ n le. take-set-le n old used b le;
  all = take_more_set old used b in';
  clear = one_zero_less old used in' 0 b;
}

pub written_by_copy : (old part bs : List ℕ) (used k : ℕ) → part ≡ bs → k ≡ length bs → used + length bs ≤ length old → Written old (put_mid used k old part) used bs
written_by_copy old part bs used k is n room =
    let fits : length part ≡ k = ap length is ∙ sym n in
    record {
      long = length-put_mid old part used k (omega arith) fits;
      front = λ m le. take-put_mid_below used k old part m le (omega arith);
      all = take-put_mid used k old part (used + length bs) (omega arith) (omega arith) ∙ ap (λ l. take used old ++ l) is;
      clear = λ z. subst (λ m. ClearFrom (used + m) (put_mid used k old part)) n (zeros_less old part used k (omega arith) fits 0 z);
    }

-- the used bytes from a place on became zero
module _ (old part : List ℕ) (end used : ℕ) (le : end ≤ used) (within : used ≤ length old) (is : part ≡ replicate (length (take (used - end) (drop end old))) 0) where
  abbrev k : ℕ
  k = used - end

  zeros : part ≡ replicate k 0
  zeros = is ∙ ap (λ n. replicate n 0) (length-take-le k (drop end old) (omega (arith, length-drop end old)))

  fits : length part ≡ k
  fits = ap length zeros ∙ length-replicate k 0

  pub clear_long : length (put_mid end k old part) ≡ length old
  clear_long = length-put_mid old part end k (omega arith) fits

  pub clear_front : take end (put_mid end k old part) ≡ take end old
  clear_front = take-put_mid_below end k old part end (omega arith) (omega arith)

  pub clear_zeros : ClearFrom used old → ClearFrom end (put_mid end k old part)
  clear_zeros z = let up : used ≡ end + k = omega arith in zeros_more old part end k (omega arith) fits 0 zeros (subst (λ n. ClearFrom n old) up z)

pub ruleset kept = (clear_long, clear_front, clear_zeros)

pub text_stays : (old now : List ℕ) (end count : ℕ) → take end now ≡ take end old → Text old end count → Text now end count
text_stays old now end count e t = record { counted = t.counted ∙ ap (λ l. length (arguments l)) (sym e); first = ap (begins separator) e ∙ t.first }

module _ (s : Joined) where
  abbrev bytes : List ℕ
  bytes = s.buffer.now

  abbrev text : List ℕ
  text = take s.finished bytes

  abbrev all : List ℕ
  all = take s.used bytes

  abbrev held_at : Option ℕ → Held
  held_at o = record { list = arguments text; pending = option_map (λ at. drop at all) o }

  used_long : length all ≡ s.used
  used_long = length-take-le s.used bytes s.within

  pub content_is : content (held s) ≡ all
  content_is = by s.start refl
    where
      by : (o : Option ℕ) → s.start ≡ o → content (held_at o) ≡ all
      by None e = ap join (append-nil (arguments text)) ∙ joins_back text ∙ ap (λ n. take n bytes) (sym (s.shut e))
      by (Some at) e = sym (s.content at e)

  -- where none is open, all of the content is finished
  pub reads_back : (held s).pending ≡ None → arguments all ≡ (held s).list
  reads_back = by s.start refl
    where
      by : (o : Option ℕ) → s.start ≡ o → (held_at o).pending ≡ None → arguments all ≡ arguments text
      by None e p = ap (λ n. arguments (take n bytes)) (s.shut e)
      by (Some at) e p = cc

  pub every_byte : bytes ≡ filled (size s) (content (held s))
  every_byte = front_and_zeros bytes s.used 0 s.within s.zeros ∙ ap (filled (size s)) (sym content_is)

  -- the space for one more argument, where none is open
  module _ (shut' : s.start ≡ None) where
    text_long : length text ≡ s.finished
    text_long = length-take-le s.finished bytes (omega (arith, s.order, s.within))

    begin_is : begin_told (rules_at (size s)) (held s) ≡ option_map refusal (room (size s) (arguments text) [])
    begin_is = ap (λ o. begin_told (rules_at (size s)) (held_at o)) shut'

    pub begin_none : (0 < s.finished → s.finished < size s) → None ≡ begin_told (rules_at (size s)) (held s)
    begin_none more = sym (begin_is ∙ ap (option_map refusal) (⊎_elim (λ (lt : 0 < s.finished). text_room (size s) text (omega (arith, text_long)) (omega (arith, text_long, more lt))) (λ (le : s.finished ≤ 0). no_text_room (size s) text (omega (arith, text_long))) (cases_lt 0 s.finished)))

    pub begin_full : 0 < s.finished → s.finished ≡ size s → Some NoSpace ≡ begin_told (rules_at (size s)) (held s)
    begin_full some e = sym (begin_is ∙ ap (option_map refusal) (text_no_room (size s) text (omega (arith, text_long)) (text_long ∙ e)))

  module _ (at : ℕ) (is : s.start ≡ Some at) where
    abbrev tail : List ℕ
    tail = drop at all

    all_long : length (join (arguments text ++ tail ∷ [])) ≡ s.used
    all_long = sym (ap length (s.content at is)) ∙ used_long

    abbrev left : ℕ
    left = size s - s.used

    pub write_bar : (bs : List ℕ) → write_told (rules_at (size s)) (held s) bs ≡ option_map refusal (bytes_bar left bs)
    write_bar bs =
        ap (λ o. write_told (rules_at (size s)) (held_at o) bs) is ∙ ap (option_map refusal) (first_bar_is (size s) (arguments text) left tail bs (omega (arith, all_long, s.within)))

    pub can_write : {A : Type 0} (bs : List ℕ) (r : Result A Refusal) → verdict r ≡ option_map refusal (bytes_bar left bs) → OnOk r (CanWrite s bs)
    can_write bs (Ok x) e = let fit = bytes_fit left bs e in record { begun = ap is_some is; room = omega (arith, fit.0, s.within); whole = fit.1 }
    can_write bs (Err x) e = tt

    args : 0 < s.used → arguments all ≡ arguments text ++ tail ∷ []
    args h = ap arguments (s.content at is) ∙ args_more text tail (s.whole at is) (omega (arith, all_long))

    first_byte : begins separator all ≡ false
    first_byte =
        ⊎_elim (λ (lt : 0 < s.finished). begins_take separator s.finished s.used bytes lt s.order ∙ s.text.first)
        (λ (le : s.finished ≤ 0).
        let z : s.finished ≡ 0 = omega arith in
        ap (begins separator) (s.content at is ∙ ap (λ n. join (arguments (take n bytes) ++ tail ∷ [])) z) ∙ begins_whole separator tail (s.whole at is))
        (cases_lt 0 s.finished)

    pub can_finish : 0 < s.used → CanFinish s
    can_finish h =
        let counted : s.count + 1 ≡ length (arguments all) = ap (λ n. n + 1) s.text.counted ∙ sym (ap length (args h) ∙ length-append (arguments text) (tail ∷ [])) in
        record {
          fits = omega (arith, counted, few_arguments all first_byte, used_long);
          text = record { counted = counted; first = first_byte };
          list = ap (λ o. (held_at o).list ++ option_to_list (held_at o).pending) is ∙ sym (args h);
        }

  -- bytes more in the open argument
  module _ (bs : List ℕ) (can : CanWrite s bs) (new : List ℕ) (w : Written bytes new s.used bs) where
    abbrev end : ℕ
    end = s.used + length bs

    pub write_within : end ≤ length new
    write_within = omega (arith, w.long, can.room)

    pub write_text : Text new s.finished s.count
    write_text = text_stays bytes new s.finished s.count (w.front s.finished s.order) s.text

    pub write_shut : s.start ≡ None → end ≡ s.finished
    write_shut e = absurd (both_ways _ (ap is_some e) can.begun)

    module _ (at : ℕ) (is : s.start ≡ Some at) where
      tail_more : drop at (take end new) ≡ drop at all ++ bs
      tail_more = ap (drop at) w.all ∙ drop-append-le at all bs (omega (arith, used_long, s.behind at is))

      pub write_behind : at ≤ end
      write_behind = omega (arith, s.behind at is)

      pub write_whole : holds separator (drop at (take end new)) ≡ false
      write_whole = ap (holds separator) tail_more ∙ holds-append separator (drop at all) bs (s.whole at is) can.whole

      pub write_content : take end new ≡ join (arguments (take s.finished new) ++ drop at (take end new) ∷ [])
      write_content =
          w.all ∙ ap (λ l. l ++ bs) (s.content at is) ∙ sym (join_grown (arguments text) (drop at all) bs) ∙ (λ i. join (arguments (sym (w.front s.finished s.order) i) ++ sym tail_more i ∷ []))

    pub write_holds : record { list = arguments (take s.finished new); pending = option_map (λ at. drop at (take end new)) s.start } ≡ written None bs (held s)
    write_holds = λ i. record { list = arguments (w.front s.finished s.order i); pending = by s.start refl i }
      where
        by : (o : Option ℕ) → s.start ≡ o → option_map (λ at. drop at (take end new)) o ≡ option_map (λ a. a ++ bs) (option_map (λ at. drop at all) o)
        by None e = refl
        by (Some at) e = ap Some (tail_more at e)

-- an argument is open where the content ends
pub record Opened (s : Joined) (new : List ℕ) (used : ℕ) : Type 0 where
  pub within : used ≤ length new
  pub order : s.finished ≤ used
  pub zeros : ClearFrom used new
  pub text : Text new s.finished s.count
  pub whole : (at : ℕ) → Some used ≡ Some at → holds separator (drop at (take used new)) ≡ false
  pub content : (at : ℕ) → Some used ≡ Some at → take used new ≡ join (arguments (take s.finished new) ++ drop at (take used new) ∷ [])

module _ (s : Joined) (can : CanBegin s) where
  no_tail : (new : List ℕ) (used at : ℕ) → Some used ≡ Some at → used ≤ length new → drop at (take used new) ≡ []
  no_tail new used at e within = let same : used ≡ at = cc in drop_all at (take used new) (omega (arith, length-take-le used new within))

  opened_first : s.finished ≡ 0 → Opened s s.buffer.now 0
  opened_first z =
      let none : s.used ≡ 0 = s.shut can.shut ∙ z in
      record {
        within = omega arith;
        order = omega arith;
        zeros = subst (λ n. ClearFrom n s.buffer.now) none s.zeros;
        text = s.text;
        whole = λ at e. ap (holds separator) (no_tail s.buffer.now 0 at e (omega arith));
        content = λ at e. (λ i. join (arguments (take (sym z i) s.buffer.now) ++ sym (no_tail s.buffer.now 0 at e (omega arith)) i ∷ []));
      }

  opened_behind : (new : List ℕ) → 0 < s.finished → Written s.buffer.now new s.finished (31 ∷ []) → Opened s new (s.finished + 1)
  opened_behind new some w =
      let within : s.finished + 1 ≤ length new = omega (arith, w.long, can.room some) in
      let front : take s.finished new ≡ take s.finished s.buffer.now = w.front s.finished (omega arith) in
      record {
        within = within;
        order = omega arith;
        zeros = w.clear (subst (λ n. ClearFrom n s.buffer.now) (s.shut can.shut) s.zeros);
        text = text_stays s.buffer.now new s.finished s.count front s.text;
        whole = λ at e. ap (holds separator) (no_tail new (s.finished + 1) at e within);
        content = λ at e.
            w.all ∙ sym (join_behind (take s.finished s.buffer.now) [] (omega (arith, length-take-le s.finished s.buffer.now (omega (arith, s.order, s.within))))) ∙ (λ i. join (arguments (sym front i) ++ sym (no_tail new (s.finished + 1) at e within) i ∷ []));
      }

  pub opened : (new : List ℕ) (at : ℕ) → new ≡ cond (eqb s.finished 0) s.buffer.now (set s.buffer.now s.finished 31) → at ≡ cond (eqb s.finished 0) 0 (s.finished + 1) → Opened s new at
  opened new at p q =
      ⊎_elim
      (λ (some : 0 < s.finished).
      let other : eqb s.finished 0 ≡ false = ne_eqb s.finished 0 (λ z. omega arith) in
      let written = written_by_set s.buffer.now s.finished 31 (can.room some) in
      rw (p, q, other) (opened_behind (set s.buffer.now s.finished 31) some written))
      (λ (le : s.finished ≤ 0).
      let none : s.finished ≡ 0 = omega arith in
      let first : eqb s.finished 0 ≡ true = eq-eqb s.finished 0 none in
      rw (p, q, first) (opened_first none))
      (cases_lt 0 s.finished)

pub ruleset room_told = (begin_none, begin_full)
