use Rattle.std.proofs.Common.{◌∙◌, ap}
use Rattle.perf_flat.specs.Flat.{refused_frame}
use Rattle.perf_flat.proofs.FrameAnswers.{bad_refused}
use Rattle.perf_flat.proofs.read.bad_frame.Goals as goal

pub returns : goal.returns
returns c = λ settings o bytes bad.
    let why = c.why_bad.ensures in
    bad_refused settings o c.args.header bytes _ bad
    (λ small. c.refuse_frame.ensures ∙ ap (refused_frame c.args.header) (why.small small))
    (λ sized. c.refuse_frame.ensures ∙ ap (refused_frame c.args.header) (why.short sized))
