use Rattle.std.proofs.Common.{map, length, vec_items, vec_capacity, sym, ap, ◌∙◌, arith}
use Rattle.std.specs.Option.{option_map, option_to_list}
use Rattle.sinks.specs.Sinks.{write_told}
use Rattle.strangers.specs.Letters.{letter, rules_at}
use Rattle.strangers.proofs.Lettering.{one_too_many}
use Rattle.strangers.proofs.letters.LettersSink.write.Goals as goal

pub returns-in_default-clause-answer : goal.returns-in_default-clause-answer
returns-in_default-clause-answer c =
    let s = c.args.self.now in
    let some = ap (λ o. length (option_to_list o)) c.in_default.is-0 in
    one_too_many (vec_capacity s.letters) (map letter (vec_items s.letters)) c.in_ok-byte.byte c.args.bytes.now (omega arith) (omega (arith, some))
    ∙ ap (λ p. write_told (rules_at (vec_capacity s.letters)) (record { list = map letter (vec_items s.letters); pending = option_map option_to_list p }) c.args.bytes.now) (sym c.in_ok-byte.ensures.ok_part)

pub returns-in_default-2-clause-answer : goal.returns-in_default-2-clause-answer
returns-in_default-2-clause-answer c =
    let s = c.args.self.now in
    one_too_many (vec_capacity s.letters) (map letter (vec_items s.letters)) c.in_ok-byte.byte c.args.bytes.now (omega arith) (omega arith)
    ∙ ap (λ p. write_told (rules_at (vec_capacity s.letters)) (record { list = map letter (vec_items s.letters); pending = option_map option_to_list p }) c.args.bytes.now) (sym c.in_ok-byte.ensures.ok_part)
