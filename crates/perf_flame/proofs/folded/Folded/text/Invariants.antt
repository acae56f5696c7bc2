use Rattle.std.proofs.Common.{◌≡◌, ◌++◌, map}
use Rattle.perf_flame.specs.Lines.{lines_text}
use Rattle.perf_flame.specs.FoldedLines.{entry_line, folded_lines}
use Rattle.perf_flame.proofs.folded.Folded.text.Given as goal

abbrev pub invariant-loop-stack : goal.invariant-loop-stack
invariant-loop-stack l = l.text.items ++ lines_text (map entry_line l.stack-iterator) ≡ lines_text (folded_lines l.self)
