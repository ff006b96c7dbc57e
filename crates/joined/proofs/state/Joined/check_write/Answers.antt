use Rattle.std.proofs.Common.{sym, ◌∙◌}
use Rattle.joined.proofs.States.{write_bar, can_write}
use Rattle.joined.proofs.state.Joined.check_write.Goals as goal

pub returns-clause-answer : goal.returns-clause-answer
returns-clause-answer c = c.check_bytes.ensures ∙ sym (write_bar c.args.self.now _ c.in_ok-check_open.ensures.place c.args.bytes.now)

pub returns-clause-can : goal.returns-clause-can
returns-clause-can c = can_write c.args.self.now _ c.in_ok-check_open.ensures.place c.args.bytes.now c.check_bytes.result c.check_bytes.ensures
