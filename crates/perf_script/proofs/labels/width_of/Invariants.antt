use Rattle.std.proofs.Common.{◌≡◌, ◌≤◌, length, drop, map}
use Rattle.perf_script.specs.Labels.{own_name, widest}
use Rattle.perf_script.proofs.labels.width_of.Given as goal

abbrev pub invariant-loop-left : goal.invariant-loop-left
invariant-loop-left l = (l.left ≤ length l.events) × (l.width ≡ widest (map own_name (drop l.left l.events)))

abbrev pub decreases-loop-left : goal.decreases-loop-left
decreases-loop-left l = l.left
