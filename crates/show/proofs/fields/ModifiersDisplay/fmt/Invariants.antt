use Rattle.std.proofs.Common.{◌≡◌, ◌++◌}
use Rattle.std.specs.Fmt.{HasWritten, IsPlainFormatter}
use denote.Shadow.{shadow}
use denote.Text.{Utf8}
use Rattle.flags.specs.Meaning.{Bytes, known_modifiers}
use Rattle.show.specs.Shown.{modifiers}
use Rattle.show.proofs.Separated.{left}
use Rattle.show.proofs.fields.ModifiersDisplay.fmt.Given as goal

-- what is written and what is left is the whole
abbrev pub invariant-loop-modifier : goal.invariant-loop-modifier
invariant-loop-modifier g l =
    shadow (Utf8 l.separator)
    × (IsPlainFormatter l.initial.f → (bs : Bytes) × HasWritten g.W.Write.write_str_gives l.initial.f bs l.f × (bs ++ left l.separator (known_modifiers l.modifier-iterator.rest.now) ≡ modifiers (known_modifiers l.self.0.text.now)))
