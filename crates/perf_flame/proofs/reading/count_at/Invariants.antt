use Rattle.std.proofs.Common.{◌≡◌, ◌+◌, ◌≤◌, length, take, eqb, not}
use Rattle.std.specs.List.{suffix_len}
use Rattle.perf_flame.proofs.reading.count_at.Given as goal

abbrev pub invariant-loop-at : goal.invariant-loop-at
invariant-loop-at l =
    (l.at ≤ length l.line)
    × (l.at + suffix_len (λ b. not (eqb b 32)) l.line ≡ length l.line + suffix_len (λ b. not (eqb b 32)) (take l.at l.line))

abbrev pub decreases-loop-at : goal.decreases-loop-at
decreases-loop-at l = l.at
