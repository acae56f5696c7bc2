use Rattle.std.proofs.Common.{◌≡◌, ◌-◌, length}
use Rattle.perf_base.specs.Dynamic.{order_of}
use Rattle.perf_file.specs.BuildIds.{are_whole}
use Rattle.perf_file.proofs.build_ids.are_whole.Given as goal

abbrev pub invariant-loop-index : goal.invariant-loop-index
invariant-loop-index l = are_whole (order_of l.order) (length l.fn.bytes - l._index) l.left ≡ are_whole (order_of l.order) (length l.fn.bytes) l.fn.bytes
