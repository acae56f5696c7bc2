use Rattle.std.proofs.Common.{refl}
use Rattle.perf_base.specs.Configured.{configuration_of, endian_of}
use Rattle.perf_buffers.specs.Buffer.{chunk_bytes, chunk_is_borrowed}
use Rattle.perf_records.specs.Answers.{answer_after}
use Rattle.perf_records.specs.Records.{sample_is, sample_value}
use Rattle.perf_reports.proofs.FramePrinted.{adds_line, sample_read}
use Rattle.perf_reports.proofs.frame_printer.FramePrinter.print_sample.Goals as goal

pub returns-in-Ok : goal.returns-in-Ok
returns-in-Ok g c =
    let f = c.args.frame.now in
    let settings = configuration_of c.args.config.now in
    let order = g.O.Endian.order (endian_of c.args.config.now) in
    let bytes = chunk_bytes f.rest in
    let now = c.sample_into.new.sample in
    let read = sample_read f.header settings order bytes (chunk_is_borrowed f.rest) c.sample_into.result c.in-Ok.field-0 now (c.sample_into.ensures.sample c.requires) c.in-Ok.is in
    let add = c.add-added.ensures in
    adds_line g.W.Write.contents g.E.Write.contents c.args.self.now _ f.header (answer_after settings order f.header bytes) (sample_is (sample_value now)) c.add-added.result read refl refl refl add.grown add.part add.refused
