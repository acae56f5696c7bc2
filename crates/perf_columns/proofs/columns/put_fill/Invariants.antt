use Rattle.std.proofs.Common.{◌≡◌, ◌+◌, ◌++◌, ◌≤◌, replicate}
use Rattle.std.specs.Prelude.{slice_index_or}
use Rattle.perf_text.specs.Strips.{strip_text, room_of}
use Rattle.perf_columns.proofs.columns.put_fill.Given as goal

abbrev pub invariant-loop-left : goal.invariant-loop-left
invariant-loop-left l = record {
  text : replicate l.left (slice_index_or l.fill 0 0) ++ strip_text l.strip ≡ replicate l.fn.count (slice_index_or l.fill 0 0) ++ strip_text l.fn.strip;
  room : room_of l.strip + l.fn.count ≡ room_of l.fn.strip + l.left;
  few : l.left ≤ room_of l.strip;
}

abbrev pub decreases-loop-left : goal.decreases-loop-left
decreases-loop-left l = l.left
