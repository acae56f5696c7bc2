use Rattle.perf_flame.proofs.Merging.{total_is_kept}
use Rattle.perf_flame.proofs.laws.total_law.Goals as goal

pub returns : goal.returns
returns c = total_is_kept
