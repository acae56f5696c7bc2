use Rattle.std.proofs.Common.{◌≡◌, ◌*◌, ◌++◌, ◌/◌, length}
use Rattle.perf_base.specs.Dynamic.{order_of}
use Rattle.perf_counters.specs.GroupEntry.{block_len}
use Rattle.perf_script.specs.Blocks.{readings_in}
use Rattle.perf_script.proofs.readings.push_group.Given as goal

abbrev pub invariant-loop-count : goal.invariant-loop-count
invariant-loop-count l =
    (l.count ≡ length l.left / (8 * block_len l.with_id l.with_lost))
    × (l.readings.items ++ readings_in (order_of l.order) l.with_id l.with_lost l.count l.left
    ≡ l.initial.readings.items ++ readings_in (order_of l.order) l.with_id l.with_lost (length l.bytes / (8 * block_len l.with_id l.with_lost)) l.bytes)

abbrev pub decreases-loop-count : goal.decreases-loop-count
decreases-loop-count l = l.count
