use Rattle.std.proofs.Common.{◌≡◌, ◌+◌, ◌++◌, map, drop, length}
use Rattle.std.specs.Prelude.{codes}
use Rattle.perf_flame.specs.Boxes.{if_wide, flame_box}
use Rattle.perf_flame.specs.BoxViews.{box_view}
use Rattle.perf_flame.specs.FoldedLines.{entry_line}
use Rattle.perf_flame.specs.Lines.{total_of}
use Rattle.perf_flame.specs.Scans.{scan}
use Rattle.perf_flame.proofs.boxes.boxes_of.Given as goal

abbrev pub invariant-loop-at : goal.invariant-loop-at
invariant-loop-at l = record {
  long : length l.shares.items ≡ length l.stacks;
  before : l.before + total_of (map entry_line (drop l.at l.stacks)) ≡ l.total;
  boxes : map box_view l.found.items ++ scan l.total l.before (drop l.at l.shares.items) (map entry_line (drop l.at l.stacks))
      ≡ if_wide l.total (flame_box (codes "all") 0 0 l.total) ++ scan l.total 0 l.shares.items (map entry_line l.stacks);
}
