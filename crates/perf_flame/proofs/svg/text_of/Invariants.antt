use Rattle.std.proofs.Common.{◌≡◌, ◌+◌, ◌-◌, ◌^◌, ◌++◌, map, take, min}
use Rattle.std.specs.List.{flat_map}
use Rattle.perf_flame.specs.BoxViews.{box_view}
use Rattle.perf_flame.specs.Svg.{box_text, head_text, row}
use Rattle.perf_flame.proofs.svg.text_of.Given as goal

abbrev pub invariant-loop-one : goal.invariant-loop-one
invariant-loop-one l =
    l.text.items ≡ head_text (min (row l.deepest + 16) (2 ^ 64 - 1))
    ++ flat_map (box_text l.total l.deepest) (map box_view (take l.one-index l.boxes))
