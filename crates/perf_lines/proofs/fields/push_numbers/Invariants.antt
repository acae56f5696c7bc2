use Rattle.std.proofs.Common.{◌≡◌, ◌≤◌, ◌*◌, ◌++◌, [], drop, length, decimal}
use Rattle.std.specs.List.{flat_map}
use Rattle.perf_text.specs.Strips.{strip_text, room_of}
use Rattle.perf_lines.specs.Fields.{present}
use Rattle.perf_lines.proofs.fields.push_numbers.Given as goal

abbrev pub invariant-loop-left : goal.invariant-loop-left
invariant-loop-left l = record {
  within : l.left ≤ length l.numbers;
  absent : flat_map (λ field. present (λ n. field.0.now ++ decimal n) field.1) (drop l.left l.numbers) ≡ [];
}

abbrev pub decreases-loop-left : goal.decreases-loop-left
decreases-loop-left l = l.left

abbrev pub invariant-loop-left-2 : goal.invariant-loop-left-2
invariant-loop-left-2 l = record {
  within : l.left ≤ length l.numbers;
  room : 36 * l.left ≤ room_of l.strip;
  written : strip_text l.strip ≡ flat_map (λ field. present (λ n. field.0.now ++ decimal n) field.1) (drop l.left l.numbers);
}

abbrev pub decreases-loop-left-2 : goal.decreases-loop-left-2
decreases-loop-left-2 l = l.left
