use Rattle.std.proofs.Common.{arith}
use Rattle.joined.proofs.States.{can_finish}
use Rattle.joined.proofs.state.Joined.check_finish.Goals as goal

pub returns-clause-can : goal.returns-clause-can
returns-clause-can c = can_finish c.args.self.now _ c.in_ok-check_open.ensures.place (omega arith)
