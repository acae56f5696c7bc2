use Rattle.std.proofs.Common.{◌≡◌, ◌++◌, ◌-◌, ◌*◌, ◌≤◌, length}
use Rattle.perf_base.specs.Dynamic.{order_of}
use Rattle.perf_base.specs.Layout.{words_of}
use Rattle.perf_walk.specs.Calls.{calls_in, chain_calls}
use Rattle.perf_walk.proofs.calls.push_chain.Given as goal

-- the calls so far and those of the numbers that are left are those of all
abbrev pub invariant-loop-index : goal.invariant-loop-index
invariant-loop-index l = record {
  whole : l.calls.items ++ calls_in l.mode (words_of (order_of l.order) (l.count - l._index) l.left) ≡ l.initial.calls.items ++ chain_calls (words_of (order_of l.order) l.count l.chain);
  room : 8 * (l.count - l._index) ≤ length l.left;
}
