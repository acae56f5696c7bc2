use Rattle.std.proofs.Common.{◌≡◌, take, map, All}
use Rattle.std.specs.List.{zip}
use Rattle.perf_base.specs.Configured.{endian_of}
use Rattle.perf_base.specs.Dynamic.{order_of}
use Rattle.perf_sections.specs.Names.{name_view, name_of}
use Rattle.perf_sections.specs.Opened.{event_view, event_in}
use Rattle.perf_sections.specs.declared.events.Event.{Event}
use Rattle.perf_sections.proofs.reading.events_with.Given as goal

abbrev pub invariant-loop-index : goal.invariant-loop-index
invariant-loop-index l = (map event_view l.events.items ≡ map (event_in (order_of l.order) l.bytes) (take l.index (zip l.attributes l.sections)))
    × All (λ (e : Event). endian_of e.config ≡ l.order) l.events.items
    × All (λ (e : Event). name_view e.name ≡ name_of l.order l.descriptions (event_view e)) l.events.items
