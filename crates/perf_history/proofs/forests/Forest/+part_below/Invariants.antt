use Rattle.perf_history.specs.Forests.{reach}
use Rattle.perf_history.proofs.forests.Forest.+part_below.Given as goal

abbrev pub decreases-part_below : goal.decreases-part_below
decreases-part_below l = reach l.tree
