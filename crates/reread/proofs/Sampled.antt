-- The answers to a sample's lines, one after the other. Assumes nothing.
use Rattle.std.proofs.Common.{◌≡◌, List, [], ◌∷◌, ◌++◌, map, sym, subst, codes, Ok, Err, Result, OnOk, inr, is_ok, if◌then◌else◌}
use Rattle.std.proofs.lemmas.List.{map-append}
use Rattle.flags.specs.Meaning.{Bytes}
use Rattle.hexadecimal.specs.Digits.{OfBytes}
use Rattle.reread.specs.Answers.{Answered, AllAnswered, none_yet, one_more}

pub begun : (out : Bytes) → out ≡ [] → AllAnswered [] out
begun out e = let Along : Bytes → Type 0 = λ o. AllAnswered [] o in subst Along (sym e) none_yet

pub gone_on : {A : Type 0} (v : A → Bytes) (items : List A) (x : A) (before after : Bytes) → AllAnswered (map v items) before → Answered (v x) before after → AllAnswered (map v (items ++ (x ∷ []))) after
gone_on v items x before after all one = rw map-append (one_more _ _ _ _ all one)

pub ended : (lines items : List Bytes) (out : Bytes) → items ≡ lines → AllAnswered items out → AllAnswered lines out
ended lines items out e all = let Along : List Bytes → Type 0 = λ ls. AllAnswered ls out in subst Along e all

pub unread : {A E : Type 0} (r : Result A E) (line before after : Bytes) → ¬ (OfBytes line) → after ≡ (if is_ok r then before ++ codes "unreadable\n" else before) → OnOk r (Answered line before after)
unread (Ok x) line before after none said = inr (record { none = none; written = said })
unread (Err e) line before after none said = tt
