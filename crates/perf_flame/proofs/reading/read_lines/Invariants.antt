use Rattle.std.proofs.Common.{◌≡◌, ◌+◌, ◌-◌, ◌≤◌, length}
use Rattle.perf_flame.specs.FoldedLines.{folded_lines}
use Rattle.perf_flame.proofs.UnderWay.{IsUnderWay}
use Rattle.perf_flame.proofs.reading.read_lines.Given as goal

abbrev pub invariant-loop-number : goal.invariant-loop-number
invariant-loop-number l = record {
  most : l.most ≡ length l.text;
  short : l.number + length l.rest ≤ length l.text;
  way : IsUnderWay (folded_lines l.fn.folded) l.text l.rest l.number (folded_lines l.folded);
}

abbrev pub decreases-loop-number : goal.decreases-loop-number
decreases-loop-number l = l.most - l.number
