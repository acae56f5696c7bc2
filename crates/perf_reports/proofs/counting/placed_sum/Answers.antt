use Rattle.std.proofs.Common.{subst, sym}
use Rattle.std.specs.Prelude.{Err}
use Rattle.perf_base.specs.Configuration.{Configuration}
use Rattle.perf_base.specs.Configured.{configuration_of, endian_of}
use Rattle.perf_base.specs.Order.{Order}
use Rattle.perf_base.specs.declared.error.ErrorKind.{ErrorKind}
use Rattle.perf_buffers.specs.Prelude.{chunk_bytes, chunk_is_borrowed}
use Rattle.perf_records.specs.Answers.{answer_after}
use Rattle.perf_reports.specs.Counting.{SumsAnswer}
use Rattle.perf_reports.proofs.Counted.{placed_sum, placed_refused}
use Rattle.perf_reports.proofs.counting.placed_sum.Goals as goal

pub returns-in-Ok : goal.returns-in-Ok
returns-in-Ok g c =
    let f = c.args.frame.now in
    placed_sum f.header (configuration_of c.args.config.now) (g.E.Endian.order (endian_of c.args.config.now)) (chunk_bytes f.rest) (chunk_is_borrowed f.rest) c.try_sample_into.result c.in-Ok.field-0 c.try_sample_into.new.sample c.sample_sum.result
    (c.try_sample_into.ensures.sample c.requires) c.in-Ok.is c.sample_sum.ensures

pub returns-in-Err : goal.returns-in-Err
returns-in-Err g c =
    let f = c.args.frame.now in
    let settings : Configuration = configuration_of c.args.config.now in
    let order : Order = g.E.Endian.order (endian_of c.args.config.now) in
    subst (λ (k : ErrorKind). SumsAnswer (answer_after settings order f.header (chunk_bytes f.rest)) (Err k)) (sym c.kind.ensures)
    (placed_refused f.header settings order (chunk_bytes f.rest) (chunk_is_borrowed f.rest) c.try_sample_into.result c.in-Err.bad c.try_sample_into.new.sample (c.try_sample_into.ensures.sample c.requires) c.in-Err.is)
