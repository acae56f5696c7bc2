use Rattle.std.proofs.Common.{◌≡◌, ◌≤◌, ◌+◌, ◌*◌, ◌++◌, drop, length, decimal}
use Rattle.std.specs.List.{flat_map}
use Rattle.perf_text.specs.Strips.{strip_text, room_of}
use Rattle.perf_lines.proofs.fields.push_fields.Given as goal

abbrev pub invariant-loop-left : goal.invariant-loop-left
invariant-loop-left l = record {
  within : l.left ≤ length l.fields;
  room : 36 * l.left + 16 ≤ room_of l.strip;
  written : strip_text l.strip ≡ flat_map (λ field. field.0.now ++ decimal field.1) (drop l.left l.fields);
}

abbrev pub decreases-loop-left : goal.decreases-loop-left
decreases-loop-left l = l.left
