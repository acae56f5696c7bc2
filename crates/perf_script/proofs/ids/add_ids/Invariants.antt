use Rattle.std.proofs.Common.{◌≤◌, length, drop}
use Rattle.perf_sections.specs.IdTables.{ids_of}
use Rattle.perf_script.specs.Ids.{Adds}
use Rattle.perf_script.proofs.ids.add_ids.Given as goal

abbrev pub invariant-loop-left : goal.invariant-loop-left
invariant-loop-left l = (l.left ≤ length l.ids) × Adds (ids_of l.event (drop l.left l.ids)) l.initial.events l.events

abbrev pub decreases-loop-left : goal.decreases-loop-left
decreases-loop-left l = l.left
