use Rattle.std.proofs.Common.{◌≡◌, List, drop}
use Rattle.perf_file.specs.Views.{view}
use Rattle.perf_flame.specs.Tallies.{tally_lines}
use Rattle.perf_history.specs.declared.changes.Change.{Change}
use Rattle.perf_walk.specs.Plain.{IsPast}
use Rattle.perf_fold.specs.EventLabels.{labels_view}
use Rattle.perf_fold.proofs.Moving.{AreSoFar}
use Rattle.perf_fold.proofs.folding.fold_entries.Given as goal

-- the lines so far, to which those of the entries that are left are added, are the lines of all
abbrev pub invariant-loop-entry : goal.invariant-loop-entry
invariant-loop-entry l = record {
  recording : l.walk.recording.now ≡ l.recording;
  how : l.folder.how ≡ l.fn.how;
  labels : l.folder.labels.now ≡ l.fn.labels;
  lines : (known : List Change) × IsPast l.walk.history known × AreSoFar l.fn.how (labels_view l.labels) (view l.recording) l.entries (drop l.entry-index l.entries) known (tally_lines l.folder.tally);
}
