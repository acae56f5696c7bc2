use Rattle.std.proofs.Common.{◌≡◌, ◌+◌, ◌-◌, ◌≤◌, ◌++◌, eqb, map, take, drop}
use Rattle.std.specs.Prelude.{count_by}
use Rattle.perf_flame.specs.Boxes.{last_name, joined_below}
use Rattle.perf_flame.specs.BoxViews.{box_view}
use Rattle.perf_flame.specs.FoldedLines.{entry_line}
use Rattle.perf_flame.specs.Scans.{scanned_box}
use Rattle.perf_flame.proofs.boxes.push_new_boxes.Given as goal

abbrev pub invariant-loop-place : goal.invariant-loop-place
invariant-loop-place l = record {
  begun : l.start ≤ l.place;
  name : take (l.place - l.start) (drop l.start l.key) ≡ last_name (take l.place l.key);
  depth : l.depth ≡ count_by (λ b. eqb b 0) (take l.place l.key) + 1;
  deep : l.depth ≤ l.place + 1;
  key : l.key ≡ l.stack.0.items;
  boxes : map box_view l.boxes.items ≡ map box_view l.fn.boxes.items
      ++ joined_below l.place (scanned_box l.total l.before (entry_line l.stack) l.share l.shares (map entry_line l.rest));
}
