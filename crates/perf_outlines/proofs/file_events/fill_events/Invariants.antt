use Rattle.std.proofs.Common.{◌≡◌, ◌-◌, ◌++◌, Ok, map, take, drop}
use Rattle.std.specs.List.{zip}
use Rattle.perf_sections.specs.Attributes.{attribute_at}
use Rattle.perf_sections.specs.IdSections.{entry_count}
use Rattle.perf_sections.specs.Opens.{◌>>=◌, each_from}
use Rattle.perf_outlines.specs.FileEvents.{flat_event, flat_events}
use Rattle.perf_outlines.proofs.file_events.fill_events.Given as goal

abbrev pub invariant-loop-index : goal.invariant-loop-index
invariant-loop-index l = (each_from (attribute_at l.bytes l.head) l.index (entry_count l.head - l.index) >>= λ ats. Ok (take l.index l.all ++ map (flat_event l.head.order) (zip ats (drop l.index l.sections)))) ≡ flat_events l.bytes l.head l.sections
