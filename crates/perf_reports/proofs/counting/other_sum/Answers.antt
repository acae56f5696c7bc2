use Rattle.std.proofs.Common.{subst, sym, ℕ}
use Rattle.std.specs.Prelude.{List, Result}
use Rattle.perf_base.specs.Configuration.{Configuration}
use Rattle.perf_base.specs.Configured.{configuration_of, endian_of}
use Rattle.perf_base.specs.Order.{Order}
use Rattle.perf_base.specs.declared.error.ErrorKind.{ErrorKind}
use Rattle.perf_base.specs.declared.sys.perf_event_header.{perf_event_header}
use Rattle.perf_buffers.specs.Prelude.{chunk_bytes, chunk_is_borrowed}
use Rattle.perf_records.specs.Answers.{answer_after}
use Rattle.perf_reports.specs.Counting.{SumsAnswer}
use Rattle.perf_reports.proofs.Counted.{visited_sum}
use Rattle.perf_reports.proofs.counting.other_sum.Goals as goal

pub returns : goal.returns
returns g c =
    let f = c.args.frame.now in
    let b = c.borrowed.result in
    let settings : Configuration = configuration_of c.args.config.now in
    let order : Order = g.E.Endian.order (endian_of c.args.config.now) in
    let sum : Result ℕ ErrorKind = c.with_kind.result in
    let summed = subst (λ (r : Result ℕ ErrorKind). SumsAnswer (answer_after settings order b.header (chunk_bytes b.rest)) r) (sym c.with_kind.ensures)
    (visited_sum b.header settings order (chunk_bytes b.rest) (chunk_is_borrowed b.rest) c.try_visit.result c.try_visit.ensures) in
    subst (λ (h : perf_event_header). SumsAnswer (answer_after settings order h (chunk_bytes f.rest)) sum) c.borrowed.ensures.header
    (subst (λ (bytes : List ℕ). SumsAnswer (answer_after settings order b.header bytes) sum) c.borrowed.ensures.rest summed)
