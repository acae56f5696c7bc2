use Rattle.std.proofs.Common.{◌≡◌, take}
use Rattle.std.specs.Prelude.{sum}
use Rattle.perf_reports.specs.Counting.{modulo_word}
use Rattle.perf_reports.proofs.sums.wrapping_sum.Given as goal

abbrev pub invariant-loop-number : goal.invariant-loop-number
invariant-loop-number l = l.total ≡ modulo_word (sum (take l.number-index l.numbers))
