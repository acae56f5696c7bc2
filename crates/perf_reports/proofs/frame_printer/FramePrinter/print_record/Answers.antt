use Rattle.std.proofs.Common.{refl}
use Rattle.perf_base.specs.Configured.{configuration_of, endian_of}
use Rattle.perf_buffers.specs.Buffer.{chunk_bytes, chunk_is_borrowed}
use Rattle.perf_records.specs.Answers.{answer_after}
use Rattle.perf_records.specs.Records.{record_value}
use Rattle.perf_reports.proofs.FramePrinted.{adds_line, record_read}
use Rattle.perf_reports.proofs.frame_printer.FramePrinter.print_record.Goals as goal

pub returns-in-Ok : goal.returns-in-Ok
returns-in-Ok g c =
    let f = c.args.frame.now in
    let settings = configuration_of c.args.config.now in
    let order = g.O.Endian.order (endian_of c.args.config.now) in
    let bytes = chunk_bytes f.rest in
    let read = record_read f.header settings order bytes (chunk_is_borrowed f.rest) c.record.result c.in-Ok.record c.record.ensures c.in-Ok.is in
    let add = c.add-added.ensures in
    adds_line g.W.Write.contents g.E.Write.contents c.args.self.now _ f.header (answer_after settings order f.header bytes) (record_value c.in-Ok.record) c.add-added.result read refl refl refl add.grown add.part add.refused
