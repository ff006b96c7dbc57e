-- The rules and the function agree. Assumes nothing.
use Rattle.std.proofs.Common.{◌≡◌, ℕ, List, [], ◌∷◌, ◌++◌, Some, None, Option, sym, refl, ap, ◌∙◌, subst}
use Rattle.construct.specs.Made.{all_made}
use Rattle.flags.specs.Codes.{about}
use Rattle.flags.specs.Meaning.{Bytes, Meaning}
use Rattle.flags.specs.declared.kinds.Code.{Code}
use Rattle.tables.specs.Tables.{Options}
use Rattle.text.specs.Cuts.{Halves, cut_first}
use Rattle.text.specs.Shapes.{Form, form_of, empty, single, double, long, short, plain}
use Rattle.reading.specs.Reading.{free, long_owed, short_owed, ended, Step, equipped as equipped-step, alone, taking_rest, before, cluster_step, long_step, free_step, reading, reading_from}
use Rattle.reading.specs.Left.{Left, between, in_cluster, in_list, coming}
use Rattle.reading.specs.Rules.{NoOption, is_empty, is_dash, is_plain, TakesOne, Bare, Named, Unequipped, Gives, at_the_end, stops, passes, unknown_name, unknown_named, bare_name, bare_equipped, equipped, takes_next, takes_empty, cluster, no_letter_left, unknown_letter, bare_letter, takes_rest, letter_takes_next, letter_lacks_one, words_left}

module _ (o : Options) where
  pub nothing_more : (args : List Bytes) → reading_from o ended args ≡ []
  nothing_more [] = refl
  nothing_more (a ∷ args) = nothing_more args

  -- the flags of a step, and those of the arguments behind
  abbrev from_step : List Bytes → Step → List Meaning
  from_step args s = s.0 ++ reading_from o s.1 args

  abbrev by_cut : Bytes → Option Halves → Step
  by_cut body cut = elim cut [ Some halves ↦ equipped-step (o.long halves.0) halves.1 | None ↦ alone (o.long body) ]

  abbrev pub letter_step : Option Code → Bytes → Step
  letter_step k bs = elim k [ None ↦ ([], free) | Some c ↦ elim (about c).flag [ Some flag ↦ before flag (cluster_step o bs) | None ↦ taking_rest c bs ] ]

  module _ (args : List Bytes) where
    of_form : (a : Bytes) (f : Form) → form_of a ≡ f → reading o (a ∷ args) ≡ from_step args (free_step o f)
    of_form a f e = ap (λ g. from_step args (free_step o g)) e

    module _ (a body : Bytes) (e : form_of a ≡ long body) where
      of_alone : Unequipped body → (k : Option Code) → o.long body ≡ k → reading o (a ∷ args) ≡ from_step args (alone k)
      of_alone u k e' = of_form a (long body) e ∙ rw (u, long_step, e')

      of_equipped : (name arg : Bytes) → Named body name arg → (k : Option Code) → o.long name ≡ k → reading o (a ∷ args) ≡ from_step args (equipped-step k arg)
      of_equipped name arg n k e' = of_form a (long body) e ∙ rw (n, long_step, e')

    of_letter : (b : ℕ) (bs : Bytes) (k : Option Code) → o.short b ≡ k → coming o (in_cluster (b ∷ bs) args) ≡ from_step args (letter_step k bs)
    of_letter b bs k e = rw (e, cluster_step)

    of_taking : (b : ℕ) (bs : Bytes) (c : Code) → o.short b ≡ Some c → TakesOne c → coming o (in_cluster (b ∷ bs) args) ≡ from_step args (taking_rest c bs)
    of_taking b bs c e t = of_letter b bs (Some c) e ∙ rw (t, letter_step)

    bare_step : (c : Code) (bs : Bytes) (flag : Meaning) → Bare c flag → from_step args (letter_step (Some c) bs) ≡ from_step args (before flag (cluster_step o bs))
    bare_step c bs flag e = rw (e, letter_step)

    alone_bare : (c : Code) (flag : Meaning) → Bare c flag → from_step args (alone (Some c)) ≡ flag ∷ reading o args
    alone_bare c flag e = rw (e, alone)

    alone_owing : (c : Code) → TakesOne c → from_step args (alone (Some c)) ≡ reading_from o (long_owed c) args
    alone_owing c e = rw (e, alone)

    equipped_bare : (c : Code) (flag : Meaning) (arg : Bytes) → Bare c flag → from_step args (equipped-step (Some c) arg) ≡ reading o args
    equipped_bare c flag arg e = rw (e, equipped-step)

    equipped_given : (c : Code) (arg : Bytes) → TakesOne c → from_step args (equipped-step (Some c) arg) ≡ all_made c arg ++ reading o args
    equipped_given c arg e = rw (e, equipped-step)

  passed : (a : Bytes) (args : List Bytes) → NoOption a → reading o (a ∷ args) ≡ reading o args
  passed a args (is_empty e) = of_form args a empty e
  passed a args (is_dash e) = of_form args a single e
  passed a args (is_plain e) = of_form args a plain e

  -- what the rules give is what comes
  pub gives_coming : (l : Left) (flags : List Meaning) → Gives o l flags → coming o l ≡ flags
  gives_coming l flags at_the_end = refl
  gives_coming l flags (stops a args e) = of_form args a double e ∙ nothing_more args
  gives_coming l flags (passes a args fs n g) = passed a args n ∙ gives_coming (between args) fs g
  gives_coming l flags (unknown_name a body args fs e u k g) = of_alone args a body e u None k ∙ gives_coming (between args) fs g
  gives_coming l flags (unknown_named a body name arg args fs e n k g) = of_equipped args a body e name arg n None k ∙ gives_coming (between args) fs g
  gives_coming l flags (bare_name a body c flag args fs e u k b g) = of_alone args a body e u (Some c) k ∙ alone_bare args c flag b ∙ ap (λ x. flag ∷ x) (gives_coming (between args) fs g)
  gives_coming l flags (bare_equipped a body name arg c flag args fs e n k b g) = of_equipped args a body e name arg n (Some c) k ∙ equipped_bare args c flag arg b ∙ gives_coming (between args) fs g
  gives_coming l flags (equipped a body name arg c args fs e n k t g) = of_equipped args a body e name arg n (Some c) k ∙ equipped_given args c arg t ∙ ap (λ x. all_made c arg ++ x) (gives_coming (between args) fs g)
  gives_coming l flags (takes_next a body c next args fs e u k t g) = of_alone (next ∷ args) a body e u (Some c) k ∙ alone_owing (next ∷ args) c t ∙ ap (λ x. all_made c next ++ x) (gives_coming (between args) fs g)
  gives_coming l flags (takes_empty a body c e u k t) = of_alone [] a body e u (Some c) k ∙ alone_owing [] c t
  gives_coming l flags (cluster a letters args fs e g) = of_form args a (short letters) e ∙ gives_coming (in_cluster letters args) fs g
  gives_coming l flags (no_letter_left args fs g) = gives_coming (between args) fs g
  gives_coming l flags (unknown_letter b bs args fs k g) = of_letter args b bs None k ∙ gives_coming (between args) fs g
  gives_coming l flags (bare_letter b bs c flag args fs k e g) =
      of_letter args b bs (Some c) k ∙ bare_step args c bs flag e ∙ ap (λ x. flag ∷ x) (gives_coming (in_cluster bs args) fs g)
  gives_coming l flags (takes_rest b x bs c args fs k t g) = of_taking args b (x ∷ bs) c k t ∙ ap (λ y. all_made c (x ∷ bs) ++ y) (gives_coming (between args) fs g)
  gives_coming l flags (letter_takes_next b c next args fs k t g) = of_taking (next ∷ args) b [] c k t ∙ ap (λ y. all_made c next ++ y) (gives_coming (between args) fs g)
  gives_coming l flags (letter_lacks_one b c k t) = of_taking [] b [] c k t
  gives_coming l flags (words_left c rest args fs g) = ap (λ y. all_made c rest ++ y) (gives_coming (between args) fs g)

  -- what the rules say of the arguments behind, free and owed
  record Behind (args : List Bytes) : Type 0 where
    from_free : Gives o (between args) (reading o args)
    from_long : (a body : Bytes) (c : Code) → form_of a ≡ long body → Unequipped body → o.long body ≡ Some c → TakesOne c → Gives o (between (a ∷ args)) (reading_from o (long_owed c) args)
    from_short : (b : ℕ) (c : Code) → o.short b ≡ Some c → TakesOne c → Gives o (in_cluster (b ∷ []) args) (reading_from o (short_owed c) args)

  module _ (args : List Bytes) (ih : Behind args) where
    taken_rest : (b : ℕ) (bs : Bytes) (c : Code) → o.short b ≡ Some c → TakesOne c → Gives o (in_cluster (b ∷ bs) args) (from_step args (taking_rest c bs))
    taken_rest b [] c k t = ih.from_short b c k t
    taken_rest b (x ∷ bs) c k t = takes_rest b x bs c args _ k t ih.from_free

    given_cluster : (letters : Bytes) → Gives o (in_cluster letters args) (from_step args (cluster_step o letters))
    given_cluster [] = no_letter_left args _ ih.from_free
    given_cluster (b ∷ bs) = at_letter (o.short b) refl (given_cluster bs)
      where
        at_flag : (c : Code) → o.short b ≡ Some c → (f : Option Meaning) → (about c).flag ≡ f → Gives o (in_cluster bs args) (from_step args (cluster_step o bs)) → Gives o (in_cluster (b ∷ bs) args) (from_step args (elim f [ Some flag ↦ before flag (cluster_step o bs) | None ↦ taking_rest c bs ]))
        at_flag c k (Some flag) e g = bare_letter b bs c flag args _ k e g
        at_flag c k None e g = taken_rest b bs c k e

        at_letter : (k : Option Code) → o.short b ≡ k → Gives o (in_cluster bs args) (from_step args (cluster_step o bs)) → Gives o (in_cluster (b ∷ bs) args) (from_step args (letter_step k bs))
        at_letter None k g = unknown_letter b bs args _ k ih.from_free
        at_letter (Some c) k g = at_flag c k (about c).flag refl g

    module _ (a body : Bytes) (e : form_of a ≡ long body) where
      alone_flag : Unequipped body → (c : Code) → o.long body ≡ Some c → (f : Option Meaning) → (about c).flag ≡ f → Gives o (between (a ∷ args)) (from_step args (elim f [ Some flag ↦ (flag ∷ [], free) | None ↦ ([], long_owed c) ]))
      alone_flag u c k (Some flag) b = bare_name a body c flag args _ e u k b ih.from_free
      alone_flag u c k None t = ih.from_long a body c e u k t

      given_alone : Unequipped body → (k : Option Code) → o.long body ≡ k → Gives o (between (a ∷ args)) (from_step args (alone k))
      given_alone u None k = unknown_name a body args _ e u k ih.from_free
      given_alone u (Some c) k = alone_flag u c k (about c).flag refl

      equipped_flag : (name arg : Bytes) → Named body name arg → (c : Code) → o.long name ≡ Some c → (f : Option Meaning) → (about c).flag ≡ f → Gives o (between (a ∷ args)) (from_step args (elim f [ Some flag ↦ ([], free) | None ↦ (all_made c arg, free) ]))
      equipped_flag name arg n c k (Some flag) b = bare_equipped a body name arg c flag args _ e n k b ih.from_free
      equipped_flag name arg n c k None t = equipped a body name arg c args _ e n k t ih.from_free

      given_equipped : (name arg : Bytes) → Named body name arg → (k : Option Code) → o.long name ≡ k → Gives o (between (a ∷ args)) (from_step args (equipped-step k arg))
      given_equipped name arg n None k = unknown_named a body name arg args _ e n k ih.from_free
      given_equipped name arg n (Some c) k = equipped_flag name arg n c k (about c).flag refl

      given_long : (cut : Option Halves) → cut_first 61 body ≡ cut → Gives o (between (a ∷ args)) (from_step args (by_cut body cut))
      given_long None u = given_alone u (o.long body) refl
      given_long (Some h) n = given_equipped h.0 h.1 n (o.long h.0) refl

    given_free : (a : Bytes) (f : Form) → form_of a ≡ f → Gives o (between (a ∷ args)) (from_step args (free_step o f))
    given_free a empty e = passes a args _ (is_empty e) ih.from_free
    given_free a single e = passes a args _ (is_dash e) ih.from_free
    given_free a double e = subst (Gives o (between (a ∷ args))) (sym (nothing_more args)) (stops a args e)
    given_free a (long body) e = given_long a body e (cut_first 61 body) refl
    given_free a (short letters) e = cluster a letters args _ e (given_cluster letters)
    given_free a plain e = passes a args _ (is_plain e) ih.from_free

  given_behind : (args : List Bytes) → Behind args
  given_behind [] = record { from_free = at_the_end; from_long = λ a body c e u k t. takes_empty a body c e u k t; from_short = λ b c k t. letter_lacks_one b c k t }
  given_behind (x ∷ args) = let ih = given_behind args in record {
    from_free = given_free args ih x (form_of x) refl;
    from_long = λ a body c e u k t. takes_next a body c x args _ e u k t ih.from_free;
    from_short = λ b c k t. letter_takes_next b c x args _ k t ih.from_free;
  }

  -- what comes is what the rules give
  pub coming_given : (l : Left) → Gives o l (coming o l)
  coming_given (between args) = (given_behind args).from_free
  coming_given (in_cluster letters args) = given_cluster args (given_behind args) letters
  coming_given (in_list c rest args) = words_left c rest args _ (given_behind args).from_free
