use Rattle.std.proofs.Common.{length, ap, arith}
use Rattle.sheet.proofs.States as states
use Rattle.sheet.proofs.state.Sheet.append.Goals as goal

pub invariant_of-self-clause-zeros : goal.invariant_of-self-clause-zeros
invariant_of-self-clause-zeros c =
    let can = c.requires in
    states.add_zeros c.args.self.now c.args.len can.begun c.args.bytes.now _ _ (omega arith) can.room c.copy_from_slice.ensures.after c.copy_from_slice.ensures.len

pub returns-clause-holds : goal.returns-clause-holds
returns-clause-holds c =
    let can = c.requires in
    states.add_holds c.args.self.now c.args.len can.begun c.args.bytes.now _ _ (omega arith) can.room c.copy_from_slice.ensures.after c.copy_from_slice.ensures.len

pub returns-clause-stays : goal.returns-clause-stays
returns-clause-stays c =
    let s = c.args.self.now in
    ap (λ l. record { limit = s.limit; rows = length s.pairs.now; past = l; buffer = s.bytes.ghost_name; table = s.pairs.ghost_name }) (states.write_beyond s _ _ _ (omega (arith, c.requires.room)) c.copy_from_slice.ensures.len)
