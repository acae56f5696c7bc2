-- The boxes that are found, as boxes of stacks.
use Rattle.perf_flame.specs.Boxes.{Box, flame_box}
use Rattle.perf_flame.specs.declared.boxes.FlameBox.{FlameBox}

abbrev pub box_view : FlameBox → Box
box_view b = flame_box b.name.now b.depth b.left b.worth
