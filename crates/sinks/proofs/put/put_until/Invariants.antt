use Rattle.std.proofs.Common.{◌≡◌, map}
use Rattle.sinks.specs.Putting.{arguments_bar}
use Rattle.sinks.specs.Steps.{so_far, rest_bar}
use Rattle.sinks.proofs.put.put_until.Given as goal

-- those before the place are in, and what bars the rest bars all
abbrev pub invariant-loop-argument : goal.invariant-loop-argument
invariant-loop-argument g l =
    let s = g.S.Sink in
    let held = (s.means l.initial.sink).list in
    (s.means l.sink ≡ so_far held (map (λ x. x.now) l.list) l.argument-index) × (s.fixed l.sink ≡ s.fixed l.initial.sink) × (arguments_bar (s.rules (s.fixed l.initial.sink)) held (map (λ x. x.now) l.list) ≡ rest_bar (s.rules (s.fixed l.initial.sink)) held (map (λ x. x.now) l.list) l.argument-index)
