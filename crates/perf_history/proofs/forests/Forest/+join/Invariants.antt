use Rattle.std.proofs.Common.{◌+◌}
use Rattle.perf_history.specs.Forests.{reach}
use Rattle.perf_history.proofs.forests.Forest.+join.Given as goal

abbrev pub decreases-join : goal.decreases-join
decreases-join l = reach l.lower + reach l.upper
