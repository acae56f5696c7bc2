use Rattle.perf_file.specs.Pieces.{pieces}
use Rattle.perf_file.specs.Views.{view}
use Rattle.perf_summary.proofs.Counted.{IsUnderWay}
use Rattle.perf_summary.proofs.counting.counts_of.Given as goal

abbrev pub invariant-loop-found : goal.invariant-loop-found
invariant-loop-found l =
    IsUnderWay (view l.recording) (pieces (view l.found-iterator.recording.now) l.found-iterator.left.now) l.counts
