use Rattle.std.proofs.Common.{sym, ◌∙◌, ap}
use Rattle.std.specs.Prelude.{Result}
use Rattle.perf_base.specs.Configuration.{Configuration}
use Rattle.perf_base.specs.Configured.{configuration_of, endian_of}
use Rattle.perf_base.specs.Order.{Order}
use Rattle.perf_base.specs.Refusals.{refusal_kind}
use Rattle.perf_records.specs.Sights.{sight_of}
use Rattle.perf_records.specs.declared.frame.Frame.{Frame}
use Rattle.perf_records.specs.declared.frame_handler.BadFrame.{BadFrame}
use Rattle.perf_reports.specs.Counting.{plus, counted_sight}
use Rattle.perf_reports.proofs.counting.FrameCounterFrameHandler.frame.Goals as goal

pub returns-in-Err : goal.returns-in-Err
returns-in-Err g c =
    let settings : Configuration = configuration_of c.args.config.now in
    let order : Order = g.E.Endian.order (endian_of c.args.config.now) in
    let b = c.in-Err.field-0 in
    c.add_refused.ensures b.header (refusal_kind b.refusal)
    ∙ ap (λ (s : Result Frame BadFrame). plus c.args.self.now.counts (counted_sight settings order (sight_of s))) (sym c.in-Err.is)
