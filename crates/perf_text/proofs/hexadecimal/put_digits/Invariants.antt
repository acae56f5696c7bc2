use Rattle.std.proofs.Common.{◌≡◌, ◌+◌, ◌≤◌, ◌++◌, length, drop, false}
use Rattle.std.specs.Fmt.{digits}
use Rattle.perf_text.proofs.hexadecimal.put_digits.Given as goal

abbrev pub invariant-loop-left : goal.invariant-loop-left
invariant-loop-left l = record {
  room : length (digits 16 false l.left) ≤ l.at;
  within : l.at ≤ l.end;
  start : l.at + length (digits 16 false l.number) ≡ l.end + length (digits 16 false l.left);
  written : digits 16 false l.left ++ drop l.at l.bytes ≡ digits 16 false l.number ++ drop l.end l.fn.bytes;
}

abbrev pub decreases-loop-left : goal.decreases-loop-left
decreases-loop-left l = l.left
