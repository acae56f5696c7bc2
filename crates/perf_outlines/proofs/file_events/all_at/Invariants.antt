use Rattle.std.proofs.Common.{◌≡◌, drop}
use Rattle.perf_outlines.specs.FileEvents.{all_at}
use Rattle.perf_outlines.proofs.file_events.all_at.Given as goal

abbrev pub invariant-loop-event : goal.invariant-loop-event
invariant-loop-event l = all_at l.place (drop l.event-index l.all) ≡ all_at l.place l.all
