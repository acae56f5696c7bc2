use Rattle.perf_flame.proofs.Merging.{order_is_free, grouping_is_free}
use Rattle.perf_flame.proofs.laws.merging_law.Goals as goal

pub returns : goal.returns
returns c = record { order = order_is_free; grouping = grouping_is_free }
