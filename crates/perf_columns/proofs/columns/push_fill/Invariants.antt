use Rattle.std.proofs.Common.{◌≡◌, ◌++◌, replicate}
use Rattle.perf_columns.proofs.columns.push_fill.Given as goal

abbrev pub invariant-loop-left : goal.invariant-loop-left
invariant-loop-left l = l.text.items ++ replicate l.left l.fn.fill ≡ l.initial.text.items ++ replicate l.fn.count l.fn.fill

abbrev pub decreases-loop-left : goal.decreases-loop-left
decreases-loop-left l = l.left
