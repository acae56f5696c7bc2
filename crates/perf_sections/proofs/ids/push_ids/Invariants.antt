use Rattle.std.proofs.Common.{◌≡◌, ◌++◌, take}
use Rattle.perf_sections.specs.IdTables.{ids_of}
use Rattle.perf_sections.proofs.ids.push_ids.Given as goal

abbrev pub invariant-loop-id : goal.invariant-loop-id
invariant-loop-id l = l.table.items ≡ l.initial.table.items ++ ids_of l.fn.event (take l.id-index l.ids)
