use Rattle.std.proofs.Common.{◌≡◌, ◌+◌, ◌-◌, ◌≤◌, length, drop, eqb}
use Rattle.std.specs.List.{common_prefix_len}
use Rattle.perf_flame.proofs.boxes.shared_len.Given as goal

abbrev pub invariant-loop-len : goal.invariant-loop-len
invariant-loop-len l =
    (l.len ≤ length l.first)
    × (l.len + common_prefix_len eqb (drop l.len l.first) (drop l.len l.second) ≡ common_prefix_len eqb l.first l.second)

abbrev pub decreases-loop-len : goal.decreases-loop-len
decreases-loop-len l = length l.first - l.len
