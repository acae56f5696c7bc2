use Rattle.perf_buffers.specs.declared.outer.Outer.{Outer}
use Rattle.perf_reader.specs.ReaderState.{ReaderState, state_of}
use Rattle.perf_reader.proofs.Stops.{read_in_two, stops_in_two, stops_unshown}
use Rattle.perf_reader.proofs.reader.Reader+Outer+B+E.next_header.Goals as goal

pub returns-in-Err-clause-stop : goal.returns-in-Err-clause-stop
returns-in-Err-clause-stop g c = λ told.
    let source = λ (o : Outer g.row.B.Denot). g.B.ParseBuf.source o.buf in
    let old : ReaderState = state_of source g.E.Endian.order c.args.self.now in
    let new : ReaderState = state_of source g.E.Endian.order c.read_shown_header.new.self in
    let a = c.in-Err.ensures.call.answer told in
    stops_unshown old new c.in-Err.refusal c.stop_at.result c.stop_at.ensures.eof c.stop_at.ensures.other a.2 told a.0 a.1

pub returns-in-Ok-None : goal.returns-in-Ok-None
returns-in-Ok-None g c =
    let first = c.in-Ok-None.ensures.call in
    let e = c.read_header_in_two.ensures in record {
      stop = stops_in_two c.read_header_in_two.new.self c.in-Ok-None.field-0 c.read_header_in_two.result c.in-Ok-None.field-0-is first e.stop;
      memory = λ told. e.memory;
      call = read_in_two c.in-Ok-None.field-0 _ c.in-Ok-None.field-0-is first e.call;
    }
