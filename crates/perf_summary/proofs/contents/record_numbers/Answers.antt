use Rattle.std.proofs.Common.{Some, ap, subst, ◌∙◌}
use Rattle.perf_base.specs.Configured.{configuration_of, endian_of}
use Rattle.perf_base.specs.Dynamic.{order_of}
use Rattle.perf_buffers.specs.Buffer.{chunk_bytes}
use Rattle.perf_records.specs.Answers.{answer_after}
use Rattle.perf_summary.specs.Contents.{numbers_by, Reads}
use Rattle.perf_summary.proofs.Records.{numbers_read}
use Rattle.perf_summary.proofs.contents.record_numbers.Goals as goal

pub returns-then-read_record : goal.returns-then-read_record
returns-then-read_record c =
    let settings = configuration_of c.args.config.now in
    let order = order_of (endian_of c.args.config.now) in
    let h = c.args.frame.now.header in
    let bytes = chunk_bytes c.args.frame.now.rest in
    let flat = c.read_record.new.place in
    let reads = subst (λ b. Reads settings.read_format (answer_after settings order h bytes) b flat) c.if-read_record.true c.read_record.ensures in
    ap (λ n. Some n) (c.numbers_in.ensures ∙ ap (λ k. numbers_by k flat.numbers) c.kind.ensures)
    ∙ numbers_read settings order h bytes flat reads
