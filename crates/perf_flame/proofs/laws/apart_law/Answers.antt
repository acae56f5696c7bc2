use Rattle.perf_flame.proofs.Drawn.{apart, drawn_apart}
use Rattle.perf_flame.proofs.laws.apart_law.Goals as goal

pub returns : goal.returns
returns c = record { counts = apart; drawn = drawn_apart }
