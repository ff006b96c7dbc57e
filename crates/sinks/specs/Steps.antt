-- What the parts of `put_arguments` tell it: a list goes in one argument after the other. It adds no meaning.
use Rattle.std.specs.Prelude.{◌≡◌, ℕ, List, ◌++◌, length, take, drop, None, Option}
use Rattle.std.specs.Option.{option_map}
use Rattle.text.specs.declared.refusals.Refusal.{Refusal}
use Rattle.sinks.specs.Putting.{arguments_bar}
use Rattle.sinks.specs.Sinks.{Held, Bar, Rules, refusal}

-- held: the list that stood there, and the first i of those that are put
abbrev pub so_far : List (List ℕ) → List (List ℕ) → ℕ → Held
so_far held more i = record { list = held ++ take i more; pending = None }

-- what bars those that are left
abbrev pub rest_bar : Rules → List (List ℕ) → List (List ℕ) → ℕ → Option Bar
rest_bar r held more i = arguments_bar r (held ++ take i more) (drop i more)

-- arguments were put up to the first that did not go in
pub record PutUntil (r : Rules) (more : List (List ℕ)) (told : Option Refusal) (before after : Held) : Type 0 where
  pub answer : told ≡ option_map refusal (arguments_bar r before.list more)
  pub whole : told ≡ None → after ≡ record { list = before.list ++ more; pending = None }
  pub part : take (length before.list) after.list ≡ before.list
  pub shut : after.pending ≡ None
