use Rattle.std.proofs.Common.{◌≡◌, ◌-◌}
use Rattle.perf_base.specs.Dynamic.{order_of}
use Rattle.perf_file.specs.FeatureTexts.{are_whole}
use Rattle.perf_file.proofs.command_line.are_whole.Given as goal

abbrev pub invariant-loop-index : goal.invariant-loop-index
invariant-loop-index l = are_whole (order_of l.order) (l.count - l._index) l.left ≡ are_whole (order_of l.order) l.count l.fn.bytes
