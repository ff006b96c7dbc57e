-- Bytes in several parts, and lists in several parts: the first bar of the parts is that of the whole, and so is what is written. Assumes nothing.
use Rattle.std.proofs.Common.{◌≡◌, ℕ, List, [], ◌∷◌, ◌++◌, Some, None, Option, sym, refl, ap, ◌∙◌}
use Rattle.std.specs.Option.{option_map}
use Rattle.std.proofs.lemmas.List.{append_assoc, append-nil}
use Rattle.sinks.specs.Putting.{argument_bar, arguments_bar}
use Rattle.sinks.specs.Sinks.{Held, Bar, Rules, or_else, first_bar, written}

or_else_assoc : (a b c : Option Bar) → or_else (or_else a b) c ≡ or_else a (or_else b c)
or_else_assoc None b c = refl
or_else_assoc (Some x) b c = refl

module _ (r : Rules) where
  pub first_bar-append : (list : List (List ℕ)) (a xs ys : List ℕ) → first_bar r list a (xs ++ ys) ≡ or_else (first_bar r list a xs) (first_bar r list (a ++ xs) ys)
  first_bar-append list a [] ys = ap (λ l. first_bar r list l ys) (sym (append-nil a))
  first_bar-append list a (x ∷ xs) ys =
      ap (or_else (r.carries list a x)) (first_bar-append list (a ++ x ∷ []) xs ys ∙ ap (λ l. or_else (first_bar r list (a ++ x ∷ []) xs) (first_bar r list l ys)) (append_assoc a (x ∷ []) xs))
      ∙ sym (or_else_assoc (r.carries list a x) (first_bar r list (a ++ x ∷ []) xs) (first_bar r list (a ++ x ∷ xs) ys))

  pub arguments_bar-append : (list xs ys : List (List ℕ)) → arguments_bar r list (xs ++ ys) ≡ or_else (arguments_bar r list xs) (arguments_bar r (list ++ xs) ys)
  arguments_bar-append list [] ys = ap (λ l. arguments_bar r l ys) (sym (append-nil list))
  arguments_bar-append list (x ∷ xs) ys =
      ap (or_else (argument_bar r list x)) (arguments_bar-append (list ++ x ∷ []) xs ys ∙ ap (λ l. or_else (arguments_bar r (list ++ x ∷ []) xs) (arguments_bar r l ys)) (append_assoc list (x ∷ []) xs))
      ∙ sym (or_else_assoc (argument_bar r list x) (arguments_bar r (list ++ x ∷ []) xs) (arguments_bar r (list ++ x ∷ xs) ys))

-- bytes written one part behind the other in the open argument
pub written_more : (h : Held) (xs ys : List ℕ) → written None ys (written None xs h) ≡ written None (xs ++ ys) h
written_more h xs ys = ap (λ o. record { list = h.list; pending = o }) (more h.pending)
  where
    more : (o : Option (List ℕ)) → option_map (λ a. a ++ ys) (option_map (λ a. a ++ xs) o) ≡ option_map (λ a. a ++ (xs ++ ys)) o
    more None = refl
    more (Some a) = ap Some (append_assoc a xs ys)

-- no bytes written
pub written_none : (h : Held) → h ≡ written None [] h
written_none h = ap (λ o. record { list = h.list; pending = o }) (none h.pending)
  where
    none : (o : Option (List ℕ)) → o ≡ option_map (λ a. a ++ []) o
    none None = refl
    none (Some a) = ap Some (sym (append-nil a))
