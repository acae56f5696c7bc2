use Rattle.std.proofs.Common.{◌≡◌, ◌+◌, ◌++◌, take, drop, map, length}
use Rattle.perf_base.specs.Dynamic.{order_of}
use Rattle.perf_sections.specs.IdTables.{id_table}
use Rattle.perf_outlines.specs.Outlines.{id_count, words_in, table_in}
use Rattle.perf_outlines.proofs.id_list.fill_ids.Given as goal

abbrev pub invariant-loop-event : goal.invariant-loop-event
invariant-loop-event l =
    (length l.ids ≡ l.start + id_count (drop l.event l.sections))
    × (take l.start l.ids ++ id_table l.event (map (words_in (order_of l.order) l.bytes) (drop l.event l.sections)) ≡ table_in (order_of l.order) l.bytes l.sections)
