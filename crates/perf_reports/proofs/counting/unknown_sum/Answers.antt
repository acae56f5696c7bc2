use Rattle.std.proofs.Common.{subst, sym}
use Rattle.std.specs.Prelude.{Err}
use Rattle.perf_base.specs.Configuration.{Configuration}
use Rattle.perf_base.specs.Configured.{configuration_of, endian_of}
use Rattle.perf_base.specs.Order.{Order}
use Rattle.perf_base.specs.declared.error.ErrorKind.{ErrorKind}
use Rattle.perf_buffers.specs.Prelude.{chunk_bytes}
use Rattle.perf_records.specs.Answers.{answer_after}
use Rattle.perf_reports.specs.Counting.{SumsAnswer}
use Rattle.perf_reports.proofs.Counted.{unknown_adds, unknown_refused}
use Rattle.perf_reports.proofs.counting.unknown_sum.Goals as goal

pub returns-in-Ok : goal.returns-in-Ok
returns-in-Ok g c =
    let f = c.args.frame.now in
    unknown_adds (configuration_of c.args.config.now) (g.E.Endian.order (endian_of c.args.config.now)) f.header (chunk_bytes f.rest) c.in-Ok.field-0 c.requires c.in-Ok.ensures.parts

pub returns-in-Err : goal.returns-in-Err
returns-in-Err g c =
    let f = c.args.frame.now in
    let settings : Configuration = configuration_of c.args.config.now in
    let order : Order = g.E.Endian.order (endian_of c.args.config.now) in
    subst (λ (k : ErrorKind). SumsAnswer (answer_after settings order f.header (chunk_bytes f.rest)) (Err k)) (sym c.kind.ensures)
    (unknown_refused settings order f.header (chunk_bytes f.rest) c.in-Err.error c.in-Err.ensures.parts c.in-Err.ensures.no_room.kind_is)
