use Rattle.std.proofs.Common.{◌≡◌, ◌+◌, ◌-◌, ◌≤◌, map, drop, length}
use Rattle.perf_flame.specs.FoldedLines.{entry_line}
use Rattle.perf_flame.specs.Lines.{total_of}
use Rattle.perf_flame.specs.Scans.{run}
use Rattle.perf_flame.proofs.boxes.run.Given as goal

abbrev pub invariant-loop-at : goal.invariant-loop-at
invariant-loop-at l = record {
  within : l.at ≤ length l.stacks;
  fits : l.sum + total_of (map entry_line (drop l.at l.stacks)) ≤ total_of (map entry_line l.stacks);
  sum : l.sum + run l.place (drop l.at l.shares) (map entry_line (drop l.at l.stacks)) ≡ run l.place l.shares (map entry_line l.stacks);
}

abbrev pub decreases-loop-at : goal.decreases-loop-at
decreases-loop-at l = length l.stacks - l.at
