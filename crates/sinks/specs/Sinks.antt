-- What a sink means, and what each call answers and leaves. Assumes nothing.
use Rattle.std.specs.Prelude.{ℕ, List, [], ◌∷◌, ◌++◌, take, Some, None, Ok, Err, Option, Result}
use Rattle.std.specs.Option.{option_map, option_to_list}
use Rattle.text.specs.declared.refusals.Refusal.{Refusal}
use Rattle.text.specs.declared.refusals.Refusal.TheVariants.{CannotCarry, NoSpace, OutOfTurn}

-- the finished arguments in their order, and the open one
pub record Held : Type 0 where
  pub list : List (List ℕ)
  pub pending : Option (List ℕ)

-- why a sink lets something not through: it has no way to write it, or no space is left
pub data Bar : Type 0 where
  uncarried : Bar
  full : Bar

abbrev pub refusal : Bar → Refusal
refusal uncarried = CannotCarry
refusal full = NoSpace

-- What goes through in a sink of one size: a new argument behind a list, a byte behind an open argument, the end of one.
pub record Rules : Type 0 where
  pub begins : List (List ℕ) → Option Bar
  pub carries : List (List ℕ) → List ℕ → ℕ → Option Bar
  pub finishes : List (List ℕ) → List ℕ → Option Bar

-- the first of two that is there
abbrev pub or_else : Option Bar → Option Bar → Option Bar
or_else (Some bar) next = Some bar
or_else None next = next

-- what bars the first of these bytes that does not go in, where those before it are in
abbrev pub first_bar : Rules → List (List ℕ) → List ℕ → List ℕ → Option Bar
first_bar r list argument [] = None
first_bar r list argument (b ∷ bs) = or_else (r.carries list argument b) (first_bar r list (argument ++ b ∷ []) bs)

-- the refusal in an answer, or none
abbrev pub verdict : {A : Type 0} → Result A Refusal → Option Refusal
verdict (Ok x) = None
verdict (Err e) = Some e

-- What each call is told. A call out of turn is told that first.
abbrev pub begin_told : Rules → Held → Option Refusal
begin_told r h = elim h.pending [ Some a ↦ Some OutOfTurn | None ↦ option_map refusal (r.begins h.list) ]

abbrev pub write_told : Rules → Held → List ℕ → Option Refusal
write_told r h bytes = elim h.pending [ Some a ↦ option_map refusal (first_bar r h.list a bytes) | None ↦ Some OutOfTurn ]

abbrev pub finish_told : Rules → Held → Option Refusal
finish_told r h = elim h.pending [ Some a ↦ option_map refusal (r.finishes h.list a) | None ↦ Some OutOfTurn ]

abbrev pub withdraw_told : Held → Option Refusal
withdraw_told h = elim h.pending [ Some a ↦ None | None ↦ Some OutOfTurn ]

abbrev pub cut_told : Held → Option Refusal
cut_told h = elim h.pending [ Some a ↦ Some OutOfTurn | None ↦ None ]

-- What a sink holds after a call that was told so.
abbrev pub begun : Option Refusal → Held → Held
begun None h = record { list = h.list; pending = Some [] }
begun (Some e) h = h

abbrev pub written : Option Refusal → List ℕ → Held → Held
written None bytes h = record { list = h.list; pending = option_map (λ a. a ++ bytes) h.pending }
written (Some e) bytes h = h

-- a finish that is declined drops the open argument
abbrev pub finished : Option Refusal → Held → Held
finished None h = record { list = h.list ++ option_to_list h.pending; pending = None }
finished (Some e) h = record { list = h.list; pending = None }

abbrev pub withdrawn : Held → Held
withdrawn h = record { list = h.list; pending = None }

abbrev pub cut_to : Option Refusal → ℕ → Held → Held
cut_to None n h = record { list = take n h.list; pending = None }
cut_to (Some e) n h = h

abbrev pub nothing : Held
nothing = record { list = []; pending = None }
