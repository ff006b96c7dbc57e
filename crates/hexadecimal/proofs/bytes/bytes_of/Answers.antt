use Rattle.std.proofs.Common.{◌≡◌, ◌∷◌, [], ◌++◌, arith}
use Rattle.std.proofs.lemmas.Grind.{common_steps}
use Rattle.hexadecimal.proofs.Behind.{digits_read, left_over}
use Rattle.hexadecimal.proofs.bytes.bytes_of.Goals as goal

pub loop-rest-preserved : goal.loop-rest-preserved
loop-rest-preserved c =
    let pushed : c.push.new.self.items ≡ c.loop-rest.bytes.items ++ (c.in-Some.byte ∷ []) = grind (arith, common_steps) in
    record {
      read = digits_read _ _ _ _ c.in-Some.byte c.loop-rest.invariant.read c.in-len2-up.len_at_least c.in-Some.ensures.high c.in-Some.ensures.low pushed;
      left = λ o. left_over _ c.in-len2-up.len_at_least (c.loop-rest.invariant.left o);
    }
