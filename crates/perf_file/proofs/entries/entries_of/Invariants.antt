use Rattle.std.proofs.Common.{◌≡◌, ◌++◌, map}
use Rattle.perf_file.specs.Entries.{entry_of, entries_of}
use Rattle.perf_file.specs.Pieces.{pieces}
use Rattle.perf_file.specs.Views.{view}
use Rattle.perf_file.proofs.entries.entries_of.Given as goal

abbrev pub invariant-loop-found : goal.invariant-loop-found
invariant-loop-found l =
    l.entries.items ++ map (entry_of (view l.recording)) (pieces (view l.found-iterator.recording.now) l.found-iterator.left.now)
    ≡ entries_of (view l.recording)
