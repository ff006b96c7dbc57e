use Rattle.std.proofs.Common.{append_assoc}
use Rattle.explain.proofs.told.push_end.Goals as goal

pub returns-in_ok-writeln-in-Long : goal.returns-in_ok-writeln-in-Long
returns-in_ok-writeln-in-Long c = rw c.in-Long.is (rw (c.in_ok-writeln-in-Long.ensures.bytes, append_assoc) at c.push_made.ensures)

pub returns-in-Short : goal.returns-in-Short
returns-in-Short c = rw c.in-Short.is c.writeln-in-Short.ensures.bytes
