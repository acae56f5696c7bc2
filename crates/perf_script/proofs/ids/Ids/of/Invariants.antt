use Rattle.std.proofs.Common.{◌≡◌, ℕ, ◌≤◌, length, drop}
use Rattle.std.specs.BTreeMap.{get}
use Rattle.std.specs.Ordering.{nat_cmp}
use Rattle.perf_sections.specs.IdTables.{event_of}
use Rattle.perf_script.proofs.IdTables.{ids_from}
use Rattle.perf_script.proofs.ids.Ids.of.Given as goal

abbrev pub invariant-loop-left : goal.invariant-loop-left
invariant-loop-left l = (l.left ≤ length l.list) × ((id : ℕ) → get nat_cmp l.events id ≡ event_of (ids_from l.left (drop l.left l.list)) id)

abbrev pub decreases-loop-left : goal.decreases-loop-left
decreases-loop-left l = l.left
