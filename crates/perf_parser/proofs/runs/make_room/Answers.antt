use Rattle.std.proofs.Common.{◌≡◌, arith, sym, ◌∙◌, ap, subst}
use Rattle.perf_base.specs.declared.refusal.Refusal.TheVariants as why
use Rattle.perf_buffers.specs.declared.outer.Outer.{Outer}
use Rattle.perf_reader.specs.ReaderState.{ReaderState, state_of}
use Rattle.perf_parser.specs.Steps.{StopsAt}
use Rattle.perf_reader.specs.declared.header.Stop.{Stop}
use Rattle.perf_reader.specs.declared.header.Stop.TheVariants as stop
use Rattle.perf_reader.proofs.Stops.{stops_unshown}
use Rattle.perf_parser.proofs.Lookaheads.{room_stops, err_then}
use Rattle.perf_parser.proofs.runs.make_room.Goals as goal

pub returns-in-Ok-clause-stop : goal.returns-in-Ok-clause-stop
returns-in-Ok-clause-stop g c = λ told.
    let source = λ (o : Outer g.row.B.Denot). g.B.ParseBuf.source o.buf in
    let old : ReaderState = state_of source g.E.Endian.order c.args.reader.now in
    let new : ReaderState = state_of source g.E.Endian.order c.frames_shown.new.self in
    err_then (λ (s : Stop). s ≡ stop.Refused why.OutOfMemory) (λ (s : Stop). StopsAt old s new) c.grow.result
    (λ s is. subst (λ (x : Stop). StopsAt old x new) (sym is) (room_stops old new (c.in-Ok.ensures.same told))) c.grow.ensures.refused

pub returns-in-Err-clause-stop : goal.returns-in-Err-clause-stop
returns-in-Err-clause-stop g c = λ told.
    let source = λ (o : Outer g.row.B.Denot). g.B.ParseBuf.source o.buf in
    let old : ReaderState = state_of source g.E.Endian.order c.args.reader.now in
    let new : ReaderState = state_of source g.E.Endian.order c.count.new.self in
    let e = c.in-Err.ensures in
    let n = c.count.ensures in
    stops_unshown old new c.in-Err.refusal c.stop_at.result c.stop_at.ensures.eof c.stop_at.ensures.other e.err told (ap (λ i. (source i).left) n.input ∙ e.same told) (omega (arith, n.reads, e.reads, c.of.ensures))
