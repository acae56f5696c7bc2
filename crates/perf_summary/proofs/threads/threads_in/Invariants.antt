use Rattle.std.proofs.Common.{◌≡◌, List, drop}
use Rattle.std.specs.BTreeMap.{IsOrdered}
use Rattle.perf_file.specs.Views.{view}
use Rattle.perf_history.specs.declared.changes.Change.{Change}
use Rattle.perf_walk.specs.Plain.{IsPast}
use Rattle.perf_summary.specs.Threads.{id_cmp}
use Rattle.perf_summary.proofs.InTurn.{AreSoFar}
use Rattle.perf_summary.proofs.threads.threads_in.Given as goal

-- the threads of the entries so far
abbrev pub invariant-loop-index : goal.invariant-loop-index
invariant-loop-index l = record {
  recording : l.walk.recording.now ≡ l.recording;
  ordered : IsOrdered id_cmp l.threads;
  threads : (known : List Change) × IsPast l.walk.history known × AreSoFar (view l.recording) l.entries (drop l.index l.entries) known l.threads;
}
