use Rattle.std.proofs.Common.{rules, string_bytes}
use Rattle.std.proofs.lemmas.Iterator.Consumers.{YieldsList-end}
use Rattle.std.proofs.lemmas.Iterator.Splits.{YieldsList-from_lines}
use Rattle.reread.specs.Answers.{Answered}
use Rattle.reread.proofs.Sampled.{begun, gone_on, ended}
use Rattle.reread.proofs.answers.answers.Goals as goal

pub loop-line-init : goal.loop-line-init
loop-line-init c = begun _ c.new-out.ensures.bytes

pub loop-line-preserved : goal.loop-line-preserved
loop-line-preserved c =
    let one : Answered c.in-Some.line.now (string_bytes c.loop-line.out) (string_bytes c.push_answer.new.out) = search rules in
    gone_on _ c.loop-line.yielded c.in-Some.line _ _ c.loop-line.invariant one

pub returns : goal.returns
returns c =
    let all = YieldsList-end (YieldsList-from_lines c.args.sample.now cc) c.loop-line.yielded _ c.loop-line.yielded_by _ _ c.in-None.is c.next.ensures.steps in
    ended _ _ _ all.0 c.loop-line.invariant
