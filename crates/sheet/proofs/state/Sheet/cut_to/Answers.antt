use Rattle.std.proofs.Common.{arith}
use Rattle.sheet.proofs.States as states
use Rattle.sheet.proofs.state.Sheet.cut_to.Goals as goal

pub returns-then-n-self-clause-holds : goal.returns-then-n-self-clause-holds
returns-then-n-self-clause-holds c = states.all_kept c.args.self.now c.requires c.args.n (omega arith)

pub clear-requires : goal.clear-requires
clear-requires c =
    let s = c.args.self.now in
    let fits = states.cut_within s c.requires c.args.n _ (0, 0) c.if-n-self.false c.from-end.ensures in
    (states.cut_end s c.requires c.args.n _ (0, 0) c.if-n-self.false c.from-end.ensures, omega (arith, fits, s.limited))

pub invariant_of-self-clause-zeros : goal.invariant_of-self-clause-zeros
invariant_of-self-clause-zeros c = states.first_zeros c.args.self.now c.requires c.args.n _ (0, 0) c.if-n-self.false c.from-end.ensures _ c.clear.ensures.behind

pub invariant_of-self-2-clause-within : goal.invariant_of-self-2-clause-within
invariant_of-self-2-clause-within c =
    let end = states.cut_end c.args.self.now c.requires c.args.n _ (0, 0) c.if-n-self.false c.from-end.ensures in
    omega (arith, c.args.self.now.within)

pub invariant_of-self-2-clause-zeros : goal.invariant_of-self-2-clause-zeros
invariant_of-self-2-clause-zeros c = states.cut_zeros c.args.self.now c.requires c.args.n _ (0, 0) c.if-n-self.false c.from-end.ensures _ c.clear.ensures.behind c.clear.ensures.zeros

pub invariant_of-self-2-clause-blank : goal.invariant_of-self-2-clause-blank
invariant_of-self-2-clause-blank c = states.cut_blank c.args.self.now c.requires c.args.n _ (0, 0) c.if-n-self.false c.from-end.ensures _ c.clear.ensures.behind _ c.fill.ensures.len (c.fill.ensures.after (λ y e i. (e.0 i, e.1 i)))

pub invariant_of-self-2-clause-lined : goal.invariant_of-self-2-clause-lined
invariant_of-self-2-clause-lined c = states.cut_lined c.args.self.now c.requires c.args.n _ (0, 0) c.if-n-self.false c.from-end.ensures _ c.clear.ensures.behind _ c.fill.ensures.len

pub returns-clause-holds : goal.returns-clause-holds
returns-clause-holds c = states.cut_holds c.args.self.now c.requires c.args.n _ (0, 0) c.if-n-self.false c.from-end.ensures _ c.clear.ensures.behind _ c.fill.ensures.len c.clear.ensures.front
