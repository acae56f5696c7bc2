use Rattle.std.proofs.Common.{◌≡◌, drop, map}
use Rattle.perf_sections.specs.IdPlaces.{all_at}
use Rattle.perf_sections.specs.Opened.{event_view, attributes_of}
use Rattle.perf_sections.proofs.reading.all_at.Given as goal

abbrev pub invariant-loop-event : goal.invariant-loop-event
invariant-loop-event l = all_at l.place (attributes_of (map event_view (drop l.event-index l.events))) ≡ all_at l.place (attributes_of (map event_view l.events))
