use Rattle.std.proofs.Common.{subst, ℕ}
use Rattle.std.specs.Prelude.{List}
use Rattle.perf_base.specs.Configuration.{Configuration}
use Rattle.perf_base.specs.Configured.{configuration_of, endian_of}
use Rattle.perf_base.specs.Order.{Order}
use Rattle.perf_base.specs.declared.sys.perf_event_header.{perf_event_header}
use Rattle.perf_buffers.specs.Prelude.{chunk_bytes}
use Rattle.perf_records.specs.Answers.{answer_after}
use Rattle.perf_reports.specs.Counting.{SumsAnswer}
use Rattle.perf_reports.proofs.counting.shown_sum.Goals as goal

pub returns : goal.returns
returns g c =
    let f = c.args.frame.now in
    let b = c.borrowed.result in
    let settings : Configuration = configuration_of c.args.config.now in
    let order : Order = g.E.Endian.order (endian_of c.args.config.now) in
    subst (λ (h : perf_event_header). SumsAnswer (answer_after settings order h (chunk_bytes f.rest)) c.own_place_sum.result) c.borrowed.ensures.header
    (subst (λ (bytes : List ℕ). SumsAnswer (answer_after settings order b.header bytes) c.own_place_sum.result) c.borrowed.ensures.rest c.own_place_sum.ensures)
