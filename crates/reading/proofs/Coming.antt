-- The first flag of what is left, and then those behind it, are all that come. Assumes nothing.
use Rattle.std.proofs.Common.{◌≡◌, ℕ, List, [], ◌∷◌, ◌++◌, drop, Some, None, Option, sym, refl, ap, ◌∙◌}
use Rattle.std.proofs.lemmas.List.{append-nil}
use Rattle.construct.specs.Made.{all_made, first_made}
use Rattle.construct.proofs.Onward.{tail_made, all_onward}
use Rattle.flags.specs.Codes.{about}
use Rattle.flags.specs.Meaning.{Bytes, Meaning}
use Rattle.flags.specs.declared.kinds.Code.{Code}
use Rattle.tables.specs.Tables.{Options}
use Rattle.text.specs.Cuts.{Halves, cut_first}
use Rattle.text.specs.Shapes.{Form, form_of, empty, single, double, long, short, plain}
use Rattle.reading.specs.Reading.{State, free, long_owed, short_owed, ended, Step, equipped, alone, taking_rest, cluster_step, free_step, step, reading, reading_from}
use Rattle.reading.proofs.Agreeing.{nothing_more, letter_step}
use Rattle.reading.specs.Left.{Left, between, in_cluster, in_list, First, coming, behind, rest_left, first_made_of, first_taken, first_equipped, first_alone, first_rest, first_letter, first_cluster, first_free, first_of, first_from, first}

module _ (o : Options) where
  -- the flags of a first one and of what it leaves
  abbrev pub all_from : First → List Meaning
  all_from None = []
  all_from (Some p) = p.0 ∷ coming o p.1

  reading_behind : (args : List Bytes) → reading o (behind args) ≡ reading o args
  reading_behind [] = refl
  reading_behind (a ∷ args) = refl

  -- an argument of an option, with R behind it
  module _ (c : Code) (used_up : Left) (more : Bytes → Left) (later : First) (R : List Meaning) (then : coming o used_up ≡ R) (so : (b : ℕ) (bs : Bytes) → coming o (more (b ∷ bs)) ≡ all_made c (b ∷ bs) ++ R) (or_else : R ≡ all_from later) where
    left_over : (rest : Bytes) → tail_made c rest ++ R ≡ coming o (rest_left used_up more rest)
    left_over [] = sym then
    left_over (b ∷ bs) = sym (so b bs)

    by_first : (a : Bytes) (f : Option (Meaning × ℕ)) → first_made c a ≡ f → all_made c a ++ R ≡ all_from (elim f [ None ↦ later | Some made ↦ Some (made.0, rest_left used_up more (drop made.1 a)) ])
    by_first a None e = ap (λ l. l ++ R) (all_onward c a ∙ ap (λ f. elim f [ None ↦ [] | Some p ↦ p.0 ∷ tail_made c (drop p.1 a) ]) e) ∙ or_else
    by_first a (Some made) e = ap (λ l. l ++ R) (all_onward c a ∙ ap (λ f. elim f [ None ↦ [] | Some p ↦ p.0 ∷ tail_made c (drop p.1 a) ]) e) ∙ ap (λ l. made.0 ∷ l) (left_over (drop made.1 a))

    pub made_from : (a : Bytes) → all_made c a ++ R ≡ all_from (first_made_of c a used_up more later)
    made_from a = by_first a (first_made c a) refl

  taken_from : (c : Code) (a : Bytes) (args : List Bytes) (later : First) → reading o args ≡ all_from later → all_made c a ++ reading o args ≡ all_from (first_taken c a args later)
  taken_from c a args later e = made_from c (between (behind args)) (λ rest. in_list c rest ([] ∷ args)) later (reading o args) (reading_behind args) (λ b bs. refl) e a

  -- with the flags of the arguments behind known
  module _ (args : List Bytes) (later : State → First) (known : (s : State) → reading_from o s args ≡ all_from (later s)) where
    rest_from : (c : Code) (bs : Bytes) → (taking_rest c bs).0 ++ reading_from o (taking_rest c bs).1 args ≡ all_from (first_rest args later c bs)
    rest_from c [] = known (short_owed c)
    rest_from c (b ∷ bs) = taken_from c (b ∷ bs) args (later free) (known free)

    module _ (c : Code) (bs : Bytes) where
      letter_by : (f : Option Meaning) → (let s : Step = elim f [ Some flag ↦ (flag ∷ (cluster_step o bs).0, (cluster_step o bs).1) | None ↦ taking_rest c bs ] in s.0 ++ reading_from o s.1 args) ≡ all_from (elim f [ Some flag ↦ Some (flag, in_cluster bs args) | None ↦ first_rest args later c bs ])
      letter_by None = rest_from c bs
      letter_by (Some flag) = refl

    letter_from : (k : Option Code) (bs : Bytes) → (letter_step o k bs).0 ++ reading_from o (letter_step o k bs).1 args ≡ all_from (first_letter args later k bs)
    letter_from None bs = known free
    letter_from (Some c) bs = letter_by c bs (about c).flag

    pub cluster_from : (letters : Bytes) → (cluster_step o letters).0 ++ reading_from o (cluster_step o letters).1 args ≡ all_from (first_cluster args later o letters)
    cluster_from [] = known free
    cluster_from (b ∷ bs) = letter_from (o.short b) bs

    equipped_from : (k : Option Code) (a : Bytes) → (equipped k a).0 ++ reading_from o (equipped k a).1 args ≡ all_from (first_equipped args later k a)
    equipped_from None a = known free
    equipped_from (Some c) a = by_flag (about c).flag
      where
        by_flag : (f : Option Meaning) → (let s : Step = elim f [ Some flag ↦ ([], free) | None ↦ (all_made c a, free) ] in s.0 ++ reading_from o s.1 args) ≡ all_from (elim f [ Some flag ↦ later free | None ↦ first_taken c a args (later free) ])
        by_flag None = taken_from c a args (later free) (known free)
        by_flag (Some flag) = known free

    alone_from : (k : Option Code) → (alone k).0 ++ reading_from o (alone k).1 args ≡ all_from (first_alone args later k)
    alone_from None = known free
    alone_from (Some c) = by_flag (about c).flag
      where
        by_flag : (f : Option Meaning) → (let s : Step = elim f [ Some flag ↦ (flag ∷ [], free) | None ↦ ([], long_owed c) ] in s.0 ++ reading_from o s.1 args) ≡ all_from (elim f [ Some flag ↦ Some (flag, between (behind args)) | None ↦ later (long_owed c) ])
        by_flag None = known (long_owed c)
        by_flag (Some flag) = ap (λ l. flag ∷ l) (sym (reading_behind args))

    long_from : (body : Bytes) (cut : Option Halves) → (let s : Step = elim cut [ Some halves ↦ equipped (o.long halves.0) halves.1 | None ↦ alone (o.long body) ] in s.0 ++ reading_from o s.1 args) ≡ all_from (elim cut [ Some halves ↦ first_equipped args later (o.long halves.0) halves.1 | None ↦ first_alone args later (o.long body) ])
    long_from body None = alone_from (o.long body)
    long_from body (Some h) = equipped_from (o.long h.0) h.1

    free_from : (f : Form) → (free_step o f).0 ++ reading_from o (free_step o f).1 args ≡ all_from (first_free args later o f)
    free_from empty = known free
    free_from single = known free
    free_from double = known ended
    free_from (long body) = long_from body (cut_first 61 body)
    free_from (short letters) = cluster_from letters
    free_from plain = known free

    step_from : (s : State) (a : Bytes) → (step o s a).0 ++ reading_from o (step o s a).1 args ≡ all_from (first_of args later o s a)
    step_from free a = free_from (form_of a)
    step_from (long_owed c) a = taken_from c a args (later free) (known free)
    step_from (short_owed c) a = taken_from c a args (later free) (known free)
    step_from ended a = nothing_more o args

  pub from_first : (s : State) (args : List Bytes) → reading_from o s args ≡ all_from (first_from o s args)
  from_first free [] = refl
  from_first (long_owed c) [] = sym (append-nil _) ∙ taken_from c [] [] None refl
  from_first (short_owed c) [] = refl
  from_first ended [] = refl
  from_first s (a ∷ args) = step_from args (λ t. first_from o t args) (λ t. from_first t args) s a

  -- the first flag, and then what comes behind it
  pub coming_first : (l : Left) → coming o l ≡ all_from (first o l)
  coming_first (between args) = from_first free args
  coming_first (in_cluster letters args) = cluster_from args (λ t. first_from o t args) (λ t. from_first t args) letters
  coming_first (in_list c rest args) = made_from c (between args) (λ more. in_list c more args) (first_from o free args) (reading o args) refl (λ b bs. refl) (from_first free args) rest
