use Rattle.std.proofs.Common.{ap, arith, ◌∙◌}
use Rattle.perf_base.specs.Configured.{endian_of}
use Rattle.perf_records.specs.Sights.{sight_of}
use Rattle.perf_flat.proofs.FrameAnswers.{at_front, nothing_there}
use Rattle.perf_flat.proofs.read.read_first.Goals as goal

pub returns-in-Some : goal.returns-in-Some
returns-in-Some g c =
    let order = g.E.Endian.order (endian_of c.args.config.now) in
    let all = c.frames-all in
    let same = ap (λ e. g.E.Endian.order e.now) all.ensures.order ∙ ap g.E.Endian.order c.endian.ensures in
    let front = at_front order _ c.args.bytes.now _ (sight_of c.in-Some.first) _ same all.ensures.left c.in-Some.ensures.steps in
    c.flat_first.ensures c.args.bytes.now front.0 front.1

pub returns-in-None : goal.returns-in-None
returns-in-None g c =
    let order = g.E.Endian.order (endian_of c.args.config.now) in
    let all = c.frames-all in
    let same = ap (λ e. g.E.Endian.order e.now) all.ensures.order ∙ ap g.E.Endian.order c.endian.ensures in
    let short = nothing_there order _ c.args.bytes.now _ same all.ensures.left c.in-None.ensures.steps.0 in
    absurd (omega arith)
