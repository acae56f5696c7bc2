use Rattle.std.proofs.Common.{◌≡◌, ◌≤◌, ◌+◌, ◌*◌, ◌++◌, drop, length, decimal}
use Rattle.std.specs.List.{flat_map}
use Rattle.perf_text.proofs.strip.Strip.put_each.Given as goal

abbrev pub invariant-loop-left : goal.invariant-loop-left
invariant-loop-left l = record {
  within : l.left ≤ length l.numbers;
  room : l.fn.self.start + 21 * l.left ≤ l.self.start + 21 * length l.numbers;
  written : drop l.self.start l.self.bytes ≡ flat_map (λ n. l.mark ++ decimal n) (drop l.left l.numbers) ++ drop l.fn.self.start l.fn.self.bytes;
}

abbrev pub decreases-loop-left : goal.decreases-loop-left
decreases-loop-left l = l.left
