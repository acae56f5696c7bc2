use Rattle.std.proofs.Common.{◌≡◌, ◌++◌, drop, map}
use Rattle.perf_sections.specs.IdTables.{id_table}
use Rattle.perf_sections.specs.Opened.{FileEvent, event_view, table_of}
use Rattle.perf_sections.proofs.reading.table_of.Given as goal

abbrev pub invariant-loop-index : goal.invariant-loop-index
invariant-loop-index l = l.table.items ++ id_table l.index (map (λ (e : FileEvent). e.ids) (map event_view (drop l.index l.events))) ≡ table_of (map event_view l.events)
