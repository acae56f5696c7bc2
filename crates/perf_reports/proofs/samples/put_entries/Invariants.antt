use Rattle.std.proofs.Common.{◌≡◌, ◌*◌, ◌≤◌, length, drop}
use Rattle.std.specs.List.{flat_map}
use Rattle.perf_text.specs.Strips.{strip_text, room_of}
use Rattle.perf_reports.specs.SampleLines.{entry}
use Rattle.perf_reports.proofs.samples.put_entries.Given as goal

abbrev pub invariant-loop-left : goal.invariant-loop-left
invariant-loop-left l = record {
  within : l.left ≤ length l.entries;
  room : 19 * l.left ≤ room_of l.strip;
  written : strip_text l.strip ≡ flat_map entry (drop l.left l.entries);
}

abbrev pub decreases-loop-left : goal.decreases-loop-left
decreases-loop-left l = l.left
