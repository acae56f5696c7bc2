use Rattle.std.proofs.Common.{◌≡◌, ◌≤◌, length}
use Rattle.perf_history.specs.Forests.{reach, found}
use Rattle.perf_history.proofs.forests.Forest.find.Given as goal

abbrev pub invariant-loop-tree : goal.invariant-loop-tree
invariant-loop-tree l = (reach l.tree ≤ length l.self) × (found l.self l.tree l.address ≡ found l.self l.fn.tree l.address)

abbrev pub decreases-loop-tree : goal.decreases-loop-tree
decreases-loop-tree l = reach l.tree
