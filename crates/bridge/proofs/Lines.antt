-- The lines of calls, written one behind the other. Assumes nothing.
use Rattle.std.proofs.Common.{◌≡◌, ◌≤◌, Bool, List, [], ◌∷◌, ◌++◌, length, Some, None, sym, subst, append_assoc}
use Rattle.flags.specs.Meaning.{Bytes, Meaning}
use Rattle.reading.proofs.Counting.{at_most}
use Rattle.tables.specs.Rustc.{rustc}
use Rattle.bridge.specs.Calls.{flags_of, call_line, Told, at_the_end, gives}

pub fewer : (text : Bytes) → length (flags_of text) ≤ length text
fewer text = (at_most text).flags rustc

-- with the lines of the flags that are to come, what is written tells all flags
pub record Awaits (all later : List Meaning) (out : Bytes) : Type 0 where
  pub rest : (lines : Bytes) → Told later lines → Told all (out ++ lines)

pub awaits_all : (all : List Meaning) (out : Bytes) → out ≡ [] → Awaits all all out
awaits_all all out e = record { rest = λ lines told. rw e told }

-- a line more is written, and a flag less is to come
module _ (all before after : List Meaning) (out new : Bytes) (a : Awaits all before out) where
  pub awaits_rest : (ended : Bool) (flag : Meaning) → before ≡ flag ∷ after → new ≡ out ++ call_line ended (Some flag) → Awaits all after new
  awaits_rest ended flag e line = record {
    rest = λ lines told.
        let Along : List Meaning → Type 0 = λ flags. Told flags (call_line ended (Some flag) ++ lines) in
        rw (line, append_assoc out (call_line ended (Some flag)) lines) (a.rest _ (subst Along (sym e) (gives ended flag after lines told)));
  }

-- none is to come, and the lines of three calls are written
module _ (all later : List Meaning) (out one_more two_more new : Bytes) (a : Awaits all later out) where
  pub awaits_none : (one two three : Bool) → later ≡ [] → one_more ≡ out ++ call_line one None → two_more ≡ one_more ++ call_line two None → new ≡ two_more ++ call_line three None → Told all new
  awaits_none one two three e first second third =
      let Along : List Meaning → Type 0 = λ flags. Told flags (call_line one None ++ (call_line two None ++ call_line three None)) in
      rw (third, second, first, append_assoc (out ++ call_line one None) (call_line two None) (call_line three None), append_assoc out (call_line one None) (call_line two None ++ call_line three None)) (a.rest _ (subst Along (sym e) (at_the_end one two three)))
