-- A comma list, part by part. Assumes nothing.
use Rattle.std.proofs.Common.{◌≡◌, ℕ, zero, suc, ◌+◌, ◌<◌, ◌≤◌, true, List, [], ◌∷◌, map, length, drop, Some, None, Option, sym, refl, ap, ◌∙◌, ⊎_elim, le_refl, arith, length-append, length-drop}
use Rattle.std.specs.Option.{option_map}
use Rattle.std.specs.List.{AllByRecursion}
use Rattle.std.proofs.lemmas.Bool.{and_parts, cases_lt, not-true, false≢true}
use Rattle.std.proofs.lemmas.List.{drop_all}
use Rattle.text.specs.Arguments.{Whole, pieces, piece_at, place_behind}
use Rattle.text.specs.Cuts.{Halves, cut_first}
use Rattle.text.proofs.Cutting.{cut_first_whole}
use Rattle.text.proofs.Joining.{pieces_some, pieces-joined}
use Rattle.text.proofs.Walking.{piece_by, place_by, pieces_split, pieces_uncut, behind_cut}
use Rattle.words.specs.Lists.{comma, Reads, known_in, known, first_in, first_known, from_first, first_from, ListsReadBack, Ended, Part}
use Rattle.words.specs.Reading.{read, clean}
use Rattle.words.proofs.Spelled.{read_nothing}

abbrev told : {W X : Type 0} → Option W → (W → X) → X → X
told o f x = elim o [ Some w ↦ f w | None ↦ x ]

module _ {W : Type 0} (reads : Reads W) where
  known_here : (p : List ℕ) (ps : List (List ℕ)) (w : W) → reads p ≡ Some w → known_in reads (p ∷ ps) ≡ w ∷ known_in reads ps
  known_here p ps w e = ap (λ o. told o (λ v. v ∷ known_in reads ps) (known_in reads ps)) e

  known_other : (p : List ℕ) (ps : List (List ℕ)) → reads p ≡ None → known_in reads (p ∷ ps) ≡ known_in reads ps
  known_other p ps e = ap (λ o. told o (λ v. v ∷ known_in reads ps) (known_in reads ps)) e

  first_here : (at : ℕ) (p : List ℕ) (ps : List (List ℕ)) → 0 < length ps → (w : W) → reads p ≡ Some w → first_in reads at (p ∷ ps) ≡ Some (w, at + length p + 1)
  first_here at p [] h w e = absurd (omega arith)
  first_here at p (q ∷ ps) h w e = ap (λ o. told o (λ v. Some (v, at + length p + 1)) (first_in reads (at + length p + 1) (q ∷ ps))) e

  first_other : (at : ℕ) (p : List ℕ) (ps : List (List ℕ)) → 0 < length ps → reads p ≡ None → first_in reads at (p ∷ ps) ≡ first_in reads (at + length p + 1) ps
  first_other at p [] h e = absurd (omega arith)
  first_other at p (q ∷ ps) h e = ap (λ o. told o (λ v. Some (v, at + length p + 1)) (first_in reads (at + length p + 1) (q ∷ ps))) e

  module _ (nothing : reads [] ≡ None) (list : List ℕ) where
    pub ended : (at : ℕ) → length list ≤ at → Ended reads list at
    ended at past = record {
      first = ap (λ l. first_in reads at (pieces comma l)) (drop_all at list past) ∙ rw nothing;
      all = ap (known reads) (drop_all at list past) ∙ rw nothing;
    }

    module _ (at : ℕ) (in' : at < length list) where
      module _ (p : Halves) (cut : cut_first comma (drop at list) ≡ Some p) where
        abbrev behind : ℕ
        behind = at + length p.0 + 1

        rest : drop behind list ≡ p.1
        rest = behind_cut comma list at p cut

        parts : pieces comma (drop at list) ≡ p.0 ∷ pieces comma (drop behind list)
        parts = pieces_split comma (drop at list) p cut ∙ ap (λ l. p.0 ∷ pieces comma l) (sym rest)

        between : Part reads list at p.0 behind
        between = record {
          onward = omega arith;
          within = omega (arith, length-drop at list, simp length-append at (ap length (cut_first_whole comma (drop at list) p cut)));
          first_here = λ w e. ap (first_in reads at) parts ∙ first_here at p.0 _ (pieces_some comma (drop behind list)) w e;
          first_later = λ e. ap (first_in reads at) parts ∙ first_other at p.0 _ (pieces_some comma (drop behind list)) e;
          one_more = λ w e. ap (known_in reads) parts ∙ known_here p.0 _ w e;
          no_more = λ e. ap (known_in reads) parts ∙ known_other p.0 _ e;
        }

      module _ (cut : cut_first comma (drop at list) ≡ None) where
        alone : pieces comma (drop at list) ≡ drop at list ∷ []
        alone = pieces_uncut comma (drop at list) cut

        end : Ended reads list (length list)
        end = ended (length list) (le_refl _)

        place : at + length (drop at list) ≡ length list
        place = omega (arith, length-drop at list)

        last : Part reads list at (drop at list) (length list)
        last = record {
          onward = in';
          within = le_refl _;
          first_here = λ w e. ap (first_in reads at) alone ∙ ap (option_map (λ v. (v, at + length (drop at list)))) e ∙ ap (λ n. Some (w, n)) place;
          first_later = λ e. ap (first_in reads at) alone ∙ ap (option_map (λ v. (v, at + length (drop at list)))) e ∙ sym end.first;
          one_more = λ w e. ap (known_in reads) alone ∙ known_here (drop at list) [] w e ∙ ap (λ ws. w ∷ ws) (sym end.all);
          no_more = λ e. ap (known_in reads) alone ∙ known_other (drop at list) [] e ∙ sym end.all;
        }

      part_by : (o : Option Halves) → cut_first comma (drop at list) ≡ o → Part reads list at (piece_by o (drop at list)) (place_by o at (length list))
      part_by (Some p) cut = between p cut
      part_by None cut = last cut

      pub part_there : Part reads list at (piece_at comma list at) (place_behind comma list at)
      part_there = part_by (cut_first comma (drop at list)) refl

    abbrev FirstAndRest : ℕ → Type 0
    FirstAndRest at = known reads (drop at list) ≡ from_first reads list (first_from reads list at)

    past : (at : ℕ) → length list ≤ at → FirstAndRest at
    past at l = (ended at l).all ∙ sym (ap (from_first reads list) (ended at l).first)

    word_by : (at : ℕ) (in' : at < length list) → FirstAndRest (place_behind comma list at) → (o : Option W) → reads (piece_at comma list at) ≡ o → FirstAndRest at
    word_by at in' later (Some w) e = (part_there at in').one_more w e ∙ sym (ap (from_first reads list) ((part_there at in').first_here w e))
    word_by at in' later None e = (part_there at in').no_more e ∙ later ∙ sym (ap (from_first reads list) ((part_there at in').first_later e))

    words_from : (n at : ℕ) → length list ≤ at + n → FirstAndRest at
    words_from zero at h = past at (omega arith)
    words_from (suc n) at h = ⊎_elim (λ in'. word_by at in' (words_from n (place_behind comma list at) (omega (arith, (part_there at in').onward))) _ refl) (past at) (cases_lt at (length list))

    -- the words of a list are the first one and those behind its place
    pub known_onward : known reads list ≡ from_first reads list (first_known reads list)
    known_onward = words_from (length list) 0 (omega arith)

clean_comma : (bs : List ℕ) → clean bs ≡ true → Whole comma bs
clean_comma [] e = absurd (false≢true e)
clean_comma (b ∷ bs) e = not-true _ (and_parts _ _ (and_parts _ _ (and_parts _ _ e).0).0).1

module _ {W : Type 0} (words : List W) (spelled : W → List ℕ) (spells : (w : W) → read words spelled (spelled w) ≡ Some w) (cleans : (w : W) → clean (spelled w) ≡ true) where
  known_spelled : (ws : List W) → known_in (read words spelled) (map spelled ws) ≡ ws
  known_spelled [] = refl
  known_spelled (w ∷ ws) = known_here (read words spelled) (spelled w) _ w (spells w) ∙ ap (λ vs. w ∷ vs) (known_spelled ws)

  whole_spelled : (ws : List W) → AllByRecursion (Whole comma) (map spelled ws)
  whole_spelled [] = tt
  whole_spelled (w ∷ ws) = (clean_comma (spelled w) (cleans w), whole_spelled ws)

  pub lists_read_back : ListsReadBack (read words spelled) spelled
  lists_read_back [] = known_other (read words spelled) [] [] (read_nothing spelled cleans words)
  lists_read_back (w ∷ ws) = ap (known_in (read words spelled)) (pieces-joined comma (spelled w) (map spelled ws) (whole_spelled (w ∷ ws))) ∙ known_spelled (w ∷ ws)
