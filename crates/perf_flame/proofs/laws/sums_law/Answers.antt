use Rattle.perf_flame.proofs.Summing.{lines_are_sums, lines_ascend}
use Rattle.perf_flame.proofs.laws.sums_law.Goals as goal

pub returns : goal.returns
returns c = record { sums = lines_are_sums; order = lines_ascend }
