-- A list of arguments that goes in one by one. Assumes nothing.
use Rattle.std.proofs.Common.{◌≡◌, ℕ, ◌+◌, ◌<◌, ◌≤◌, List, [], ◌∷◌, ◌++◌, map, length, get_or, take, drop, Some, None, Option, sym, refl, ap, ◌∙◌, arith, Bor}
use Rattle.std.specs.Option.{option_map}
use Rattle.std.proofs.lemmas.List.{append_assoc, append-nil, drop_more, drop_all, take_all, take_at, drop-map, map_more, take-map, length-map}
use Rattle.text.specs.declared.refusals.Refusal.{Refusal}
use Rattle.sinks.specs.Putting.{argument_bar, arguments_bar, put_told, put}
use Rattle.sinks.specs.Sinks.{Held, Bar, Rules, refusal, or_else, cut_told, cut_to}
use Rattle.sinks.specs.Steps.{so_far, rest_bar, PutUntil}

passed : (o : Option Bar) → None ≡ option_map refusal (or_else o None) → o ≡ None
passed None e = refl
passed (Some b) e = absurd cc

barred : (o next : Option Bar) (e : Refusal) → Some e ≡ option_map refusal (or_else o None) → Some e ≡ option_map refusal (or_else o next)
barred None next e p = absurd cc
barred (Some b) next e p = p

module _ (r : Rules) (held : List (List ℕ)) (xs : List (Bor (List ℕ))) where
  abbrev more : List (List ℕ)
  more = map (λ x. x.now) xs

  module _ (i : ℕ) (d : Bor (List ℕ)) (in' : i < length xs) where
    abbrev item : List ℕ
    item = (get_or xs i d).now

    split : drop i more ≡ item ∷ drop (i + 1) more
    split = drop-map (λ x. x.now) i xs ∙ ap (map (λ x. x.now)) (drop_more xs i d in') ∙ ap (λ l. item ∷ l) (sym (drop-map (λ x. x.now) (i + 1) xs))

    longer : (held ++ take i more) ++ item ∷ [] ≡ held ++ take (i + 1) more
    longer = append_assoc held (take i more) (item ∷ []) ∙ ap (λ l. held ++ l) (ap (λ l. l ++ item ∷ []) (take-map (λ x. x.now) i xs) ∙ sym (map_more (λ x. x.now) xs i d in') ∙ sym (take-map (λ x. x.now) (i + 1) xs))

    pub one_more : (h h' : Held) → h ≡ so_far held more i → h' ≡ put None (item ∷ []) h → h' ≡ so_far held more (i + 1)
    one_more h h' p q = q ∙ ap (put None (item ∷ [])) p ∙ ap (λ l. record { list = l; pending = None }) longer

    abbrev bar : Option Bar
    bar = argument_bar r (held ++ take i more) item

    rest_is : rest_bar r held more i ≡ or_else bar (rest_bar r held more (i + 1))
    rest_is = ap (arguments_bar r (held ++ take i more)) split ∙ ap (λ l. or_else bar (arguments_bar r l (drop (i + 1) more))) longer

    pub one_passed : (r' : Rules) (h : Held) → r' ≡ r → h ≡ so_far held more i → None ≡ put_told r' h (item ∷ []) → rest_bar r held more i ≡ rest_bar r held more (i + 1)
    one_passed r' h a p q = rest_is ∙ ap (λ o. or_else o (rest_bar r held more (i + 1))) (passed bar (q ∙ (λ j. put_told (a j) (p j) (item ∷ []))))

    pub one_barred : (r' : Rules) (h : Held) (e : Refusal) → r' ≡ r → h ≡ so_far held more i → Some e ≡ put_told r' h (item ∷ []) → Some e ≡ option_map refusal (rest_bar r held more i)
    one_barred r' h e a p q = barred bar (rest_bar r held more (i + 1)) e (q ∙ (λ j. put_told (a j) (p j) (item ∷ []))) ∙ sym (ap (option_map refusal) rest_is)

  pub none_yet : (h : Held) → held ≡ h.list → h.pending ≡ None → h ≡ so_far held more 0
  none_yet h p q = (λ i. record { list = sym p i; pending = q i }) ∙ ap (λ l. record { list = l; pending = None }) (sym (append-nil held))

  pub none_barred : arguments_bar r held more ≡ rest_bar r held more 0
  none_barred = ap (λ l. arguments_bar r l more) (sym (append-nil held))

  pub stopped : (i : ℕ) (h before : Held) (e : Refusal) → held ≡ before.list → h ≡ so_far held more i → arguments_bar r held more ≡ rest_bar r held more i → Some e ≡ option_map refusal (rest_bar r held more i) → PutUntil r more (Some e) before h
  stopped i h before e b p same told = record {
    answer = told ∙ ap (option_map refusal) (sym same) ∙ ap (λ l. option_map refusal (arguments_bar r l more)) b;
    whole = λ z. absurd cc;
    part = ap (λ l. take (length l) h.list) (sym b) ∙ ap (λ k. take (length held) k.list) p ∙ take_at held (take i more) _ refl ∙ b;
    shut = ap (λ k. k.pending) p;
  }

  pub all_in : (i : ℕ) (h before : Held) → held ≡ before.list → length xs ≤ i → h ≡ so_far held more i → arguments_bar r held more ≡ rest_bar r held more i → PutUntil r more None before h
  all_in i h before b past p same =
      let long : length more ≤ i = omega (arith, length-map xs (λ x. x.now)) in
      let none : arguments_bar r held more ≡ None = same ∙ ap (arguments_bar r (held ++ take i more)) (drop_all i more long) in
      let end : h ≡ record { list = before.list ++ more; pending = None } = p ∙ ap (λ l. record { list = held ++ l; pending = None }) (take_all i more long) ∙ ap (λ l. record { list = l ++ more; pending = None }) b in
      record {
        answer = sym (ap (λ l. option_map refusal (arguments_bar r l more)) (sym b) ∙ ap (option_map refusal) none);
        whole = λ z. end;
        part = ap (λ k. take (length before.list) k.list) end ∙ take_at before.list more _ refl;
        shut = ap (λ k. k.pending) p;
      }

none_open : (list : List (List ℕ)) (o : Option (List ℕ)) → None ≡ cut_told (record { list = list; pending = o }) → o ≡ None
none_open list None q = refl
none_open list (Some a) q = absurd cc

-- cutting to the number of arguments where none is open
pub nothing_cut : (n : ℕ) (h h' : Held) → n ≡ length h.list → None ≡ cut_told h → h' ≡ cut_to None n h → (h.pending ≡ None) × (h' ≡ h)
nothing_cut n h h' p q e =
    let shut = none_open h.list h.pending q in
    let all : length h.list ≤ n = omega arith in
    (shut, e ∙ (λ i. record { list = take_all n h.list all i; pending = sym shut i }))

-- the start and the end of the list
pub ruleset both_ends = (none_yet, none_barred, all_in)
