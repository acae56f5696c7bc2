use Rattle.std.proofs.Common.{Some, ap, sym, ◌∙◌}
use Rattle.perf_records.specs.Sights.{sight_of}
use Rattle.perf_outlines.specs.Entries.{time_by}
use Rattle.perf_outlines.specs.declared.file_events.FlatEvent.{FlatEvent}
use Rattle.perf_outlines.proofs.NextLaws.{event_there, event_absent}
use Rattle.perf_outlines.proofs.file_entries.time_at.Goals as goal

pub returns-in-Some : goal.returns-in-Some
returns-in-Some c =
    let all = c.args.all.now in
    let e = c.in-Some.event.now in
    c.time_by.ensures ∙ ap (λ k. time_by k (sight_of c.args.frame.now)) (ap (λ (x : FlatEvent). Some x) c.in-Some.ensures.1 ∙ sym (event_there all c.args.number e c.in-Some.ensures.0))

pub returns-in-None : goal.returns-in-None
returns-in-None c = ap (λ k. time_by k (sight_of c.args.frame.now)) (sym (event_absent c.args.all.now c.args.number c.in-None.ensures))
