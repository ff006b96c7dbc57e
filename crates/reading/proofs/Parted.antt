-- A list of arguments reads in two parts, and as the rules have it. Assumes nothing.
use Rattle.std.proofs.Common.{◌≡◌, List, [], ◌∷◌, ◌++◌, sym, refl, ap, ◌∙◌, subst}
use Rattle.std.proofs.lemmas.List.{append_assoc}
use Rattle.flags.specs.Meaning.{Bytes}
use Rattle.tables.specs.Tables.{Options}
use Rattle.reading.specs.Reading.{State, step, reading_from}
use Rattle.reading.specs.Parts.{flags_in, state_behind, InParts}
use Rattle.reading.specs.Rules.{Gives, ByRules}
use Rattle.reading.proofs.Agreeing.{gives_coming, coming_given}

module _ (o : Options) where
  split : (s : State) (first second : List Bytes) → reading_from o s (first ++ second) ≡ flags_in o s first ++ reading_from o (state_behind o s first) second
  split s [] second = refl
  split s (a ∷ first) second = ap (λ l. (step o s a).0 ++ l) (split (step o s a).1 first second) ∙ sym (append_assoc (step o s a).0 (flags_in o (step o s a).1 first) _)

pub in_parts : InParts
in_parts = record { split = split }

pub by_rules : ByRules
by_rules = record { sound = gives_coming; complete = λ o l flags e. subst (Gives o l) e (coming_given o l) }
