use Rattle.std.proofs.Common.{◌≡◌, ◌≤◌}
use Rattle.perf_base.specs.Dynamic.{order_of}
use Rattle.perf_file.specs.FeatureTable.{features_before}
use Rattle.perf_file.proofs.feature_table.features_before.Given as goal

abbrev pub invariant-loop-number : goal.invariant-loop-number
invariant-loop-number l = (l.count ≡ features_before (order_of l.order) l.bytes l.number) × (l.count ≤ l.number)
