use Rattle.std.proofs.Common.{◌≡◌, ◌+◌, ◌-◌, take, drop, Some, sym, ap, ◌∙◌, arith}
use Rattle.sheet.proofs.States.{row_end, argument_is}
use Rattle.sheet.proofs.state.Sheet.at_row.Goals as goal

pub overflow_add-result : goal.overflow_add-result
overflow_add-result c =
    let s = c.args.self.now in
    omega (arith, row_end s c.args.n (0, 0) c.requires, s.within, s.limited)

pub slice_bounds-result-end-2 : goal.slice_bounds-result-end-2
slice_bounds-result-end-2 c =
    let s = c.args.self.now in
    omega (arith, row_end s c.args.n (0, 0) c.requires, s.within, s.limited)

pub returns : goal.returns
returns c =
    let s = c.args.self.now in
    let long : c.from-from.result + c.from.result - c.from-from.result ≡ c.from.result = omega arith in
    ap (λ k. Some (take k (drop c.from-from.result s.bytes.now))) long
    ∙ (λ i. Some (take (c.from.ensures i) (drop (c.from-from.ensures i) s.bytes.now))) ∙ sym (argument_is s c.args.n (0, 0) c.requires)
