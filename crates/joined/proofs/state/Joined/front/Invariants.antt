use Rattle.std.proofs.Common.{◌≡◌, ◌-◌, ◌≤◌}
use Rattle.joined.proofs.Fronts.{before}
use Rattle.joined.proofs.state.Joined.front.Given as goal

-- The walk from here comes to the same place as from the end.
abbrev pub invariant-loop : goal.invariant-loop
invariant-loop l = (l.at ≤ l.self.finished) × (before l.self.buffer.now l.at (l.self.count - l.counter) ≡ before l.self.buffer.now l.self.finished (l.self.count - l.n))
