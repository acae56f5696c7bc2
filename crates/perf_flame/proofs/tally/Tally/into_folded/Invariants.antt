use Rattle.std.proofs.Common.{◌≡◌, map}
use Rattle.std.specs.Vec.Iter.{into_iter_items}
use Rattle.perf_flame.specs.FoldedLines.{folded_lines}
use Rattle.perf_flame.specs.Lines.{add_lines}
use Rattle.perf_flame.specs.Tallies.{counted_line, tally_lines}
use Rattle.perf_flame.proofs.tally.Tally.into_folded.Given as goal

abbrev pub invariant-loop-entry : goal.invariant-loop-entry
invariant-loop-entry l =
    add_lines (folded_lines l.folded) (map counted_line (into_iter_items l.entry-iterator)) ≡ tally_lines l.fn.self
