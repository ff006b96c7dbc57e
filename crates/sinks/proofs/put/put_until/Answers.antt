use Rattle.std.proofs.Common.{refl, ap, ◌∙◌}
use Rattle.std.proofs.lemmas.Result.{err_from_is_err_and}
use Rattle.sinks.proofs.Stepping.{one_more, one_passed, one_barred, stopped}
use Rattle.sinks.proofs.put.put_until.Goals as goal

pub loop-argument-preserved : goal.loop-argument-preserved
loop-argument-preserved g c =
    let s = g.S.Sink in
    let r = s.rules (s.fixed c.args.sink.now) in
    let inv = c.loop-argument.invariant in
    let told = c.in_ok-put_argument.ensures in
    let in' = c.loop-argument-test.true in
    (one_more r _ _ _ _ in' _ _ inv.0 told.holds, told.stays ∙ inv.1, inv.2 ∙ one_passed r _ _ _ _ in' _ _ (ap s.rules inv.1) inv.0 told.answer)

pub returns-in_err-put_argument-clause-until : goal.returns-in_err-put_argument-clause-until
returns-in_err-put_argument-clause-until g c =
    let s = g.S.Sink in
    let r = s.rules (s.fixed c.args.sink.now) in
    let inv = c.loop-argument.invariant in
    let told = c.in_err-put_argument.ensures in
    let p = err_from_is_err_and c.from_residual.result c.from_residual.ensures.1 in
    rw (p.1, p.2) (stopped r _ _ _ _ _ _ refl (told.holds ∙ inv.0) inv.2 (one_barred r _ _ _ _ c.loop-argument-test.true _ _ _ (ap s.rules inv.1) inv.0 told.answer))
