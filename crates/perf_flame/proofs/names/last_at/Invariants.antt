use Rattle.std.proofs.Common.{◌≡◌, ◌+◌, ◌≤◌, length, take, eqb, not}
use Rattle.std.specs.List.{suffix_len}
use Rattle.perf_flame.proofs.names.last_at.Given as goal

abbrev pub invariant-loop-at : goal.invariant-loop-at
invariant-loop-at l =
    (l.at ≤ length l.path)
    × (l.at + suffix_len (λ b. not (eqb b 47)) l.path ≡ length l.path + suffix_len (λ b. not (eqb b 47)) (take l.at l.path))

abbrev pub decreases-loop-at : goal.decreases-loop-at
decreases-loop-at l = l.at
