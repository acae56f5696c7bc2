use Rattle.perf_history.specs.Forests.{reach}
use Rattle.perf_history.proofs.forests.Forest.+part_from.Given as goal

abbrev pub decreases-part_from : goal.decreases-part_from
decreases-part_from l = reach l.tree
