use Rattle.std.proofs.Common.{◌≡◌, Result, Err, refl, ap, ◌∙◌}
use Rattle.perf_sections.specs.declared.error.OpenError.{OpenError}
use Rattle.perf_outlines.specs.declared.summary.Outline.{Outline}
use Rattle.perf_outlines.proofs.PipeInMemory.{pipe_refused}
use Rattle.perf_outlines.specs.Files.{open_code}
use Rattle.perf_outlines.proofs.file_events.read_pipe.Goals as goal

pub returns-in-Err-clause-refused : goal.returns-in-Err-clause-refused
returns-in-Err-clause-refused c e is =
    let both : ◌≡◌ {A = Result Outline OpenError} (Err c.in-Err.refusal) (Err e) = c.in-Err.ensures ∙ is in
    let same : c.in-Err.refusal ≡ e = cc in
    (pipe_refused c.args.order c.args.bytes.now e is, c.open_code.ensures ∙ ap open_code same, refl, refl, refl)
