use Rattle.std.proofs.Common.{◌≡◌, arith}
use Rattle.joined.proofs.States.{opened}
use Rattle.joined.proofs.state.Joined.open_argument.Goals as goal

pub invariant_of-self : goal.invariant_of-self
invariant_of-self c =
    let o = opened c.args.self.now c.requires _ _ c.separate-at.ensures.text c.separate-at.ensures.place in
    record { within = o.within; order = o.order; zeros = o.zeros; text = o.text; shut = λ e. cc; behind = λ at e. (let same : c.separate-at.result ≡ at = cc in omega arith); whole = o.whole; content = o.content }
