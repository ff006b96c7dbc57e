use Rattle.std.proofs.Common.{arith}
use Rattle.sheet.proofs.States as states
use Rattle.sheet.proofs.state.Sheet.check_write.Goals as goal

pub returns-then-bytes-self-clause-answer : goal.returns-then-bytes-self-clause-answer
returns-then-bytes-self-clause-answer c =
    let s = c.args.self.now in
    let end = states.open_end s _ c.in_ok-len.ensures.place in
    states.write_full s _ c.in_ok-len.ensures.place c.args.bytes.now (omega (arith, s.within, end))

pub returns-clause-answer : goal.returns-clause-answer
returns-clause-answer c =
    let s = c.args.self.now in
    let end = states.open_end s _ c.in_ok-len.ensures.place in
    states.write_fits s _ c.in_ok-len.ensures.place c.args.bytes.now (omega (arith, s.within, end))
