use Rattle.perf_flame.proofs.Drawn.{inside, drawn_inside}
use Rattle.perf_flame.proofs.laws.inside_law.Goals as goal

pub returns : goal.returns
returns c = record { counts = inside; drawn = drawn_inside }
