use Rattle.std.proofs.Common.{Some, None, ap, sym, ◌∙◌, arith}
use Rattle.perf_outlines.specs.declared.file_events.FlatEvent.{FlatEvent}
use Rattle.perf_outlines.proofs.NextLaws.{event_there, event_absent}
use Rattle.perf_outlines.proofs.ReadLaws.{owned}
use Rattle.perf_outlines.proofs.file_read.event_of.Goals as goal

pub returns-in-Some : goal.returns-in-Some
returns-in-Some c =
    let all = c.args.all.now in
    let e = c.args.entry.now in
    let x = c.in-Some.event.now in
    owned all e (Some x) (omega (arith, c.if-entry-gt0.false)) (event_there all e.number x c.in-Some.ensures.0 ∙ ap (λ (y : FlatEvent). Some y) (sym c.in-Some.ensures.1))

pub returns-in-None : goal.returns-in-None
returns-in-None c = owned c.args.all.now c.args.entry.now None (omega (arith, c.if-entry-gt0.false)) (event_absent c.args.all.now c.args.entry.now.number c.in-None.ensures)
