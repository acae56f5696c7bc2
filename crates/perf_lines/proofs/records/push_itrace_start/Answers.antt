use Rattle.std.proofs.Common.{◌∙◌, refl}
use Rattle.std.proofs.lemmas.Result.{on_ok_weaker}
use Rattle.perf_lines.proofs.records.push_itrace_start.Goals as goal

pub returns : goal.returns
returns c = on_ok_weaker c.push_fields.result (λ grown. grown ∙ rw (c.from.ensures, c.from-2.ensures) refl) c.push_fields.ensures
