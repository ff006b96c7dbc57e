use Rattle.std.proofs.Common.{rules, ap, sym, ◌∙◌, ◌++◌}
use Rattle.std.proofs.lemmas.Grind.{put_two, flat_map-append}
use Rattle.std.proofs.lemmas.List.{append_assoc}
use Rattle.escape.specs.Escaped.{escaped_byte}
use Rattle.escape.proofs.write_marked.Goals as goal

pub loop-rest-preserved : goal.loop-rest-preserved
loop-rest-preserved g c =
    let before = c.loop-rest.invariant in
    let front = before.0 in
    let part = c.split_at.result.0.now in
    let whole = before.1 ∙ ap (λ l. front ++ l) c.split_at.ensures.by_index.0 ∙ sym (append_assoc front part c.split_at.result.1.now) in (
      front ++ part,
      whole,
      λ plain.
          let written = before.2 plain in
          put_two _ _ _ _ _ _ _ written (c.write_part.ensures written.plain (search rules)) (sym (flat_map-append (escaped_byte c.args.mark) front part)),
    )
