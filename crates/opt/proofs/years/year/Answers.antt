use Rattle.std.proofs.Common.{◌∙◌, sym}
use Rattle.opt.proofs.Parsed.{read, not_read}
use Rattle.opt.proofs.years.year.Goals as goal

pub returns-in_err-ok : goal.returns-in_err-ok
returns-in_err-ok c = c.from_residual.ensures ∙ not_read _ _ c.args.bytes.now c.from_utf8.result c.from_utf8.ensures.cases (sym c.ok.ensures.value ∙ c.in_err-ok.was)

pub returns : goal.returns
returns c = c.ok-2.ensures.value ∙ read _ c.args.bytes.now c.from_utf8.result c.in_ok-ok.field-0 c.parse.result c.from_utf8.ensures.cases (sym c.ok.ensures.value ∙ c.in_ok-ok.was) c.parse.ensures.value.0
