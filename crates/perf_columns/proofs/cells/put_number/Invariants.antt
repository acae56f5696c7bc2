use Rattle.std.proofs.Common.{◌≡◌, ◌+◌, ◌*◌, ◌^◌, ◌<◌, ◌≤◌, take, drop}
use Rattle.perf_columns.proofs.Digits.{spell}
use Rattle.perf_columns.proofs.cells.put_number.Given as goal

abbrev pub invariant-loop-left : goal.invariant-loop-left
invariant-loop-left l = record {
  room : 16 * l.left < 16 ^ l.at;
  low : 2 ≤ l.at;
  high : l.at ≤ 17;
  before : take l.at l.cells ≡ take l.at l.fn.cells;
  written : spell (47 + l.at) l.left (drop l.at l.cells) ≡ spell 64 l.number (drop 17 l.fn.cells);
}

abbrev pub decreases-loop-left : goal.decreases-loop-left
decreases-loop-left l = l.left
