use Rattle.std.proofs.Common.{◌≡◌, ◌++◌, map, drop, []}
use Rattle.perf_flame.specs.FoldedLines.{entry_line}
use Rattle.perf_flame.specs.Scans.{shares}
use Rattle.perf_flame.proofs.boxes.shares_of.Given as goal

abbrev pub invariant-loop-key : goal.invariant-loop-key
invariant-loop-key l =
    l.found.items ++ shares l.last (map entry_line (drop l.key-index l.stacks)) ≡ shares [] (map entry_line l.stacks)
