use Rattle.std.proofs.Common.{◌≡◌, ◌+◌, ◌-◌, ◌≤◌, ◌<◌, ℕ, length, get_or}
use Rattle.perf_sections.specs.declared.ids.IdOfEvent.{IdOfEvent}
use Rattle.perf_sections.proofs.ids.least_shared.Given as goal

abbrev pub invariant-loop-index : goal.invariant-loop-index
invariant-loop-index l = record { some : 1 ≤ l.index; same : (k : ℕ) (d : IdOfEvent) → k + 1 < l.index → k + 1 < length l.table → (get_or l.table k d).id ≡ (get_or l.table (k + 1) d).id → (get_or l.table k d).event ≡ (get_or l.table (k + 1) d).event }

abbrev pub decreases-loop-index : goal.decreases-loop-index
decreases-loop-index l = length l.table - l.index
