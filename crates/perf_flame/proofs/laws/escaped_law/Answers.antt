use Rattle.std.proofs.Common.{refl}
use Rattle.perf_flame.proofs.Drawn.{opens_nothing}
use Rattle.perf_flame.proofs.laws.escaped_law.Goals as goal

pub returns : goal.returns
returns c = λ text. (refl, opens_nothing)
