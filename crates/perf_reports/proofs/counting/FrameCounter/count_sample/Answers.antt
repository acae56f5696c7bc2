use Rattle.std.proofs.Common.{◌≡◌, refl, sym, ◌∙◌, ap, subst, Err, Ok}
use Rattle.perf_base.specs.Configuration.{Configuration}
use Rattle.perf_base.specs.Configured.{configuration_of, endian_of}
use Rattle.perf_base.specs.Order.{Order}
use Rattle.perf_base.specs.declared.error.ErrorKind.{ErrorKind}
use Rattle.perf_base.specs.declared.error.ErrorKind.TheVariants.{Eof}
use Rattle.perf_base.specs.declared.sys.perf_event_header.{perf_event_header}
use Rattle.perf_buffers.specs.Buffer.{chunk_bytes, chunk_is_borrowed}
use Rattle.perf_records.specs.Answers.{answer_after}
use Rattle.perf_records.specs.Sights.{whole}
use Rattle.perf_reports.specs.Counting.{plus, CountsSight, SumsAnswer}
use Rattle.perf_reports.specs.declared.counting.FrameCounter.{FrameCounter}
use Rattle.perf_reports.proofs.Counted.{refused_counts, placed_sum, placed_refused, counts_alike}
use Rattle.perf_reports.proofs.counting.FrameCounter.count_sample.Goals as goal

pub returns-then-is_short : goal.returns-then-is_short
returns-then-is_short g c =
    c.add_refused.ensures c.args.frame.now.header Eof
    ∙ ap (plus c.args.self.now.counts) (sym (refused_counts c.args.frame.now.header _ (c.is_short.ensures c.if-is_short.true)))

pub returns-in-Ok : goal.returns-in-Ok
returns-in-Ok g c =
    let f = c.args.frame.now in
    let settings : Configuration = configuration_of c.args.config.now in
    let order : Order = g.E.Endian.order (endian_of c.args.config.now) in
    let borrowed = chunk_is_borrowed f.rest in
    let placed : FrameCounter = record c.args.self.now { sample = c.try_sample_into.new.sample } in
    let same : c.header-in-Ok.result ≡ f.header = c.header-in-Ok.ensures in
    let says : SumsAnswer (answer_after settings order f.header (chunk_bytes f.rest)) (Ok c.sample_sum-sum.result) =
    placed_sum f.header settings order (chunk_bytes f.rest) borrowed c.try_sample_into.result c.in-Ok.field-0 c.try_sample_into.new.sample c.sample_sum-sum.result
    (c.try_sample_into.ensures.sample c.requires) c.in-Ok.is c.sample_sum-sum.ensures in
    let says' = subst (λ (h : perf_event_header). SumsAnswer (answer_after settings order h (chunk_bytes f.rest)) (Ok c.sample_sum-sum.result)) (sym same) says in
    counts_alike settings order (whole f.header (chunk_bytes f.rest) borrowed) c.args.self.now placed c.add-in-Ok.new.self c.add-in-Ok.result refl
    (subst (λ (h : perf_event_header). CountsSight placed settings order (whole h (chunk_bytes f.rest) borrowed) c.add-in-Ok.result c.add-in-Ok.new.self) same
    (c.add-in-Ok.ensures settings order (chunk_bytes f.rest) borrowed says'))

pub returns-in-Err : goal.returns-in-Err
returns-in-Err g c =
    let f = c.args.frame.now in
    let settings : Configuration = configuration_of c.args.config.now in
    let order : Order = g.E.Endian.order (endian_of c.args.config.now) in
    let borrowed = chunk_is_borrowed f.rest in
    let placed : FrameCounter = record c.args.self.now { sample = c.try_sample_into.new.sample } in
    let same : c.header-in-Err.result ≡ f.header = c.header-in-Err.ensures in
    let says : SumsAnswer (answer_after settings order f.header (chunk_bytes f.rest)) (Err c.kind.result) =
    subst (λ (k : ErrorKind). SumsAnswer (answer_after settings order f.header (chunk_bytes f.rest)) (Err k)) (sym c.kind.ensures)
    (placed_refused f.header settings order (chunk_bytes f.rest) borrowed c.try_sample_into.result c.in-Err.bad c.try_sample_into.new.sample (c.try_sample_into.ensures.sample c.requires) c.in-Err.is) in
    let says' = subst (λ (h : perf_event_header). SumsAnswer (answer_after settings order h (chunk_bytes f.rest)) (Err c.kind.result)) (sym same) says in
    counts_alike settings order (whole f.header (chunk_bytes f.rest) borrowed) c.args.self.now placed c.add-in-Err.new.self c.add-in-Err.result refl
    (subst (λ (h : perf_event_header). CountsSight placed settings order (whole h (chunk_bytes f.rest) borrowed) c.add-in-Err.result c.add-in-Err.new.self) same
    (c.add-in-Err.ensures settings order (chunk_bytes f.rest) borrowed says'))
