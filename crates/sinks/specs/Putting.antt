-- Whole arguments and lists of them, put into a sink. Assumes nothing.
use Rattle.std.specs.Prelude.{ℕ, List, [], ◌∷◌, ◌++◌, Some, None, Option}
use Rattle.std.specs.Option.{option_map}
use Rattle.text.specs.declared.refusals.Refusal.{Refusal}
use Rattle.text.specs.declared.refusals.Refusal.TheVariants.{OutOfTurn}
use Rattle.sinks.specs.Sinks.{Held, Bar, Rules, refusal, or_else, first_bar, finish_told, cut_told, cut_to}

-- what bars one argument: its begin, the first of its bytes that does not go in, or its end
abbrev pub argument_bar : Rules → List (List ℕ) → List ℕ → Option Bar
argument_bar r list argument = or_else (r.begins list) (or_else (first_bar r list [] argument) (r.finishes list argument))

-- what bars the first of these arguments that does not go in, where those before it are in
abbrev pub arguments_bar : Rules → List (List ℕ) → List (List ℕ) → Option Bar
arguments_bar r list [] = None
arguments_bar r list (a ∷ rest) = or_else (argument_bar r list a) (arguments_bar r (list ++ a ∷ []) rest)

-- What is told to whoever puts arguments: an open one is in the way of all.
abbrev pub put_told : Rules → Held → List (List ℕ) → Option Refusal
put_told r h more = elim h.pending [ Some a ↦ Some OutOfTurn | None ↦ option_map refusal (arguments_bar r h.list more) ]

-- all of them, or none
abbrev pub put : Option Refusal → List (List ℕ) → Held → Held
put None more h = record { list = h.list ++ more; pending = h.pending }
put (Some e) more h = h

-- The end of an argument whose writes had this outcome.
abbrev pub end_told : Option Refusal → Rules → Held → Option Refusal
end_told None r h = finish_told r h
end_told (Some e) r h = Some e

-- Where there is a refusal, what stands behind the first n arguments is taken back, unless an argument is open.
abbrev pub kept_or_cut : Option Refusal → ℕ → Held → Held
kept_or_cut None n h = h
kept_or_cut (Some e) n h = cut_to (cut_told h) n h
