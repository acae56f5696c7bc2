use Rattle.std.proofs.Common.{◌≡◌, map, take}
use Rattle.perf_flame.specs.BoxViews.{box_view}
use Rattle.perf_flame.specs.Svg.{deepest_of}
use Rattle.perf_flame.proofs.svg.deepest_of.Given as goal

abbrev pub invariant-loop-one : goal.invariant-loop-one
invariant-loop-one l = l.most ≡ deepest_of (map box_view (take l.one-index l.boxes))
