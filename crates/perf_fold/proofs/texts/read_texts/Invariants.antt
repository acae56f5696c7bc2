use Rattle.std.proofs.Common.{◌≡◌, map, take}
use Rattle.perf_flame.specs.FoldedLines.{folded_lines}
use Rattle.perf_fold.specs.Sums.{bytes_of, AreRead, sums_of_all}
use Rattle.perf_fold.proofs.texts.read_texts.Given as goal

abbrev pub invariant-loop-index : goal.invariant-loop-index
invariant-loop-index l = record {
  read : AreRead (map bytes_of (take l.index l.texts));
  sums : folded_lines l.folded ≡ sums_of_all (map bytes_of (take l.index l.texts));
}
