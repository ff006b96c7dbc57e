use Rattle.std.proofs.Common.{arith}
use Rattle.joined.proofs.States as states
use Rattle.joined.proofs.state.Joined.append.Goals as goal

pub invariant_of-self : goal.invariant_of-self
invariant_of-self c =
    let s = c.args.self.now in
    let bs = c.args.bytes.now in
    let w = states.written_by_copy s.buffer.now _ bs s.used _ c.copy_from_slice.ensures.after (omega arith) c.requires.room in
    record {
      within = states.write_within s bs c.requires _ w;
      order = omega arith;
      zeros = w.clear s.zeros;
      text = states.write_text s bs c.requires _ w;
      shut = states.write_shut s bs c.requires _ w;
      behind = states.write_behind s bs c.requires _ w;
      whole = states.write_whole s bs c.requires _ w;
      content = states.write_content s bs c.requires _ w;
    }

pub returns-clause-holds : goal.returns-clause-holds
returns-clause-holds c =
    let s = c.args.self.now in
    states.write_holds s _ c.requires _ (states.written_by_copy s.buffer.now _ _ s.used _ c.copy_from_slice.ensures.after (omega arith) c.requires.room)
