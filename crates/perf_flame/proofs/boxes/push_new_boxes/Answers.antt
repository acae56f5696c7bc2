use Rattle.std.proofs.Common.{◌≡◌, ◌≢◌, ◌<◌, ◌-◌, ◌+◌, eqb, ℕ, List, get_or, take, drop, length, map, ap, subst, ◌∙◌, arith}
use Rattle.std.specs.Global as heap
use Rattle.std.specs.Prelude.{count_by}
use Rattle.perf_flame.specs.Boxes.{last_name}
use Rattle.perf_flame.specs.BoxViews.{box_view}
use Rattle.perf_flame.specs.declared.boxes.FlameBox.{FlameBox}
use Rattle.perf_flame.specs.FoldedLines.{entry_line}
use Rattle.perf_flame.proofs.Placing.{name_of_end, name_goes_on, depth_of_end, depth_goes_on, boxes_go_on, boxes_of_end}
use Rattle.perf_flame.proofs.boxes.push_new_boxes.Goals as goal
use Rattle.perf_flame.proofs.boxes.push_new_boxes.Goals.{then-key-place-eq0+in_ok-push_ending, else-key-place-eq0}

pub loop-place-preserved : goal.loop-place-preserved
loop-place-preserved c =
    let key : List ℕ = c.deref-key.result.now in
    let place : ℕ = c.loop-place.place in
    let old = c.loop-place.invariant in
    let l = entry_line c.args.stack.now in
    let inside : place < length key = omega (arith, c.loop-place-test.true) in
    let before = map box_view c.args.boxes.now.items in
    let lines = map entry_line c.args.rest.now in
    let made = map box_view c.loop-place.boxes.items in
    elim c.if-key-place-eq0.branch [
      | then-key-place-eq0+in_ok-push_ending w ↦
          let end = w.if-key-place-eq0.true in
          let name : List ℕ = take (place - c.loop-place.start) (drop c.loop-place.start key) in
          record {
            begun = omega (arith, w.start-is);
            name = rw w.start-is (name_of_end key place inside end);
            depth = w.depth-is ∙ depth_of_end key place inside c.loop-place.depth end old.depth;
            deep = omega (arith, w.depth-is, old.deep);
            key = old.key;
            boxes =
                ap (λ (v : heap.Vec FlameBox). map box_view v.items) w.boxes-is
                ∙ boxes_of_end c.args.total c.args.before c.args.share place l c.args.shares.now lines before made name c.loop-place.depth (map box_view w.push_ending.new.boxes.items)
                (subst (λ (k : List ℕ). get_or k place 0 ≡ 0) old.key end)
                (subst (λ (k : List ℕ). name ≡ last_name (take place k)) old.key old.name)
                (subst (λ (k : List ℕ). c.loop-place.depth ≡ count_by (λ b. eqb b 0) (take place k) + 1) old.key old.depth)
                old.boxes w.in_ok-push_ending.ensures;
          }
      | else-key-place-eq0 w ↦
          let on = w.if-key-place-eq0.false in
          record {
            begun = omega (arith, w.start-is, old.begun);
            name = rw w.start-is (name_goes_on key place inside c.loop-place.start on old.begun old.name);
            depth = w.depth-is ∙ depth_goes_on key place inside c.loop-place.depth on old.depth;
            deep = omega (arith, w.depth-is, old.deep);
            key = old.key;
            boxes =
                ap (λ (v : heap.Vec FlameBox). map box_view v.items) w.boxes-is
                ∙ boxes_go_on c.args.total c.args.before c.args.share place l c.args.shares.now lines before made (subst (λ (k : List ℕ). get_or k place 0 ≢ 0) old.key on) old.boxes;
          }
    ]
