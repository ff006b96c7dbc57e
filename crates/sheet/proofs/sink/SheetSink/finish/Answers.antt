use Rattle.sheet.proofs.States.{seal_few, seal_zeros, seal_blank, seal_lined, seal_holds}
use Rattle.sheet.proofs.sink.SheetSink.finish.Goals as goal

pub invariant_of-self-clause-few : goal.invariant_of-self-clause-few
invariant_of-self-clause-few c = seal_few c.args.self.now _ c.in_ok-len.ensures.place _ c.span.ensures

pub invariant_of-self-clause-zeros : goal.invariant_of-self-clause-zeros
invariant_of-self-clause-zeros c = seal_zeros c.args.self.now _ c.in_ok-len.ensures.place _ c.span.ensures

pub invariant_of-self-clause-blank : goal.invariant_of-self-clause-blank
invariant_of-self-clause-blank c = seal_blank c.args.self.now _ c.in_ok-len.ensures.place _ c.span.ensures

pub invariant_of-self-clause-lined : goal.invariant_of-self-clause-lined
invariant_of-self-clause-lined c = seal_lined c.args.self.now _ c.in_ok-len.ensures.place _ c.span.ensures

pub returns-clause-holds : goal.returns-clause-holds
returns-clause-holds c = seal_holds c.args.self.now _ c.in_ok-len.ensures.place _ c.span.ensures
