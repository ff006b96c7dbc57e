-- A place past the text is its end. Assumes nothing.
use Rattle.std.proofs.Common.{◌≡◌, ℕ, ◌+◌, ◌-◌, ◌≤◌, min, length, take, drop, sym, refl, ap, ◌∙◌, ⊎_elim, le_refl, subst, arith}
use Rattle.std.proofs.lemmas.List.{drop_all}
use Rattle.std.proofs.lemmas.Bool.{cases_lt}
use Rattle.flags.specs.Meaning.{Bytes}
use Rattle.text.specs.Arguments.{pieces, piece_at}
use Rattle.tables.specs.Tables.{Options}
use Rattle.reading.specs.Left.{between, in_cluster, in_list, first}
use Rattle.reader.specs.Cursors.{args_behind, left_in}
use Rattle.reader.specs.Turns.{Tells, weight_in}
use Rattle.reader.specs.declared.cursor.State.{State}
use Rattle.reader.specs.declared.cursor.State.TheVariants.{Between, Cluster, List as InList, Ended}
use Rattle.reader.specs.declared.turns.Turn.{Turn}
use Rattle.reader.proofs.Leaving.{piece_past, args_past}

module _ (text : Bytes) (at : ℕ) (past : length text ≤ at) where
  end_empty : drop (length text) text ≡ drop at text
  end_empty = drop_all (length text) text (le_refl _) ∙ sym (drop_all at text past)

  left_past : (s : State) → left_in s text (length text) ≡ left_in s text at
  left_past Between = ap (λ l. between (pieces 31 l)) end_empty
  left_past Cluster =
      let here = drop_all (length text) text (le_refl _) in
      let there = drop_all at text past in
      ap (λ p. in_cluster p (args_behind text (length text))) (piece_past text (length text) here ∙ sym (piece_past text at there))
      ∙ ap (in_cluster (piece_at 31 text at)) (args_past text (length text) here ∙ sym (args_past text at there))
  left_past (InList c n) =
      ap (λ l. in_list c (take n l) (pieces 31 (drop (length text + n) text))) end_empty
      ∙ ap (λ l. in_list c (take n (drop at text)) (pieces 31 l)) (drop_all (length text + n) text (omega arith) ∙ sym (drop_all (at + n) text (omega arith)))
  left_past Ended = refl

-- a turn at the end is one at each place past it
module _ (o : Options) (text : Bytes) (s : State) (r : Turn) where
  abbrev At : ℕ → Type 0
  At n = Tells o text (weight_in s (length text - n)) (first o (left_in s text n)) r

  pub tells_clipped : (at k : ℕ) → k ≡ min at (length text) → At k → At at
  tells_clipped at k e t = ⊎_elim
      (λ fits. let same : k ≡ at = omega (arith, e) in subst At same t)
      (λ past. let same : k ≡ length text = omega (arith, e) in
      let none : length text - length text ≡ length text - at = omega arith in
      subst (λ n. Tells o text (weight_in s n) (first o (left_in s text at)) r) none
      (subst (λ l. Tells o text (weight_in s (length text - length text)) (first o l) r) (left_past text at past s) (subst At same t)))
      (cases_lt at (length text))
