use Rattle.std.proofs.Common.{◌≡◌, ◌≤◌, ◌+◌, ◌*◌, ◌++◌, drop, length}
use Rattle.std.specs.List.{flat_map}
use Rattle.perf_text.specs.Numbers.{hex_byte}
use Rattle.perf_text.proofs.strip.Strip.put_hex_bytes.Given as goal

abbrev pub invariant-loop-left : goal.invariant-loop-left
invariant-loop-left l = record {
  within : l.left ≤ length l.bytes;
  room : l.self.start + 2 * length l.bytes ≡ l.fn.self.start + 2 * l.left;
  written : drop l.self.start l.self.bytes ≡ flat_map hex_byte (drop l.left l.bytes) ++ drop l.fn.self.start l.fn.self.bytes;
}

abbrev pub decreases-loop-left : goal.decreases-loop-left
decreases-loop-left l = l.left
