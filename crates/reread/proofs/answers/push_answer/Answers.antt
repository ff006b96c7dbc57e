use Rattle.std.proofs.Common.{refl, subst, List, ℕ}
use Rattle.hexadecimal.specs.Digits.{OfBytes}
use Rattle.reread.proofs.Sampled.{unread}
use Rattle.reread.proofs.answers.push_answer.Goals as goal

pub returns-in-Err-NotOfTheForm : goal.returns-in-Err-NotOfTheForm
returns-in-Err-NotOfTheForm c =
    let none = rw c.in-Err-NotOfTheForm.field-0-is at c.in-Err-NotOfTheForm.ensures.none in
    let NoBytes : List ℕ → Type 0 = λ digits. ¬ (OfBytes digits) in
    unread _ _ _ _ (subst NoBytes c.as_bytes.ensures.value (none refl)) c.push_str-in-Err-NotOfTheForm.ensures.bytes
