use Rattle.std.proofs.Common.{◌≡◌, ◌+◌, ◌<◌, ◌^◌, map}
use Rattle.perf_flame.specs.Lines.{total_of}
use Rattle.perf_flame.specs.FoldedLines.{entry_line, folded_lines}
use Rattle.perf_flame.proofs.folded.Folded.total.Given as goal

abbrev pub invariant-loop-count : goal.invariant-loop-count
invariant-loop-count l =
    (l.total < 2 ^ 64) × (l.total + total_of (map entry_line l.count-iterator) ≡ total_of (folded_lines l.self))
