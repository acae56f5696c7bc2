use Rattle.std.proofs.Common.{◌≡◌, map}
use Rattle.perf_flame.specs.FoldedLines.{entry_line, folded_lines}
use Rattle.perf_flame.specs.Keys.{by_frames, key_line}
use Rattle.perf_flame.specs.Lines.{add_lines}
use Rattle.perf_flame.proofs.keys.by_frames.Given as goal

abbrev pub invariant-loop-stack : goal.invariant-loop-stack
invariant-loop-stack l =
    add_lines (folded_lines l.sums) (map (key_line l.inverted) (map entry_line l.stack-iterator))
    ≡ by_frames l.inverted (folded_lines l.folded)
