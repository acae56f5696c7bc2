use Rattle.std.proofs.Common.{List, ℕ, Bor, ap, map, ◌∙◌}
use Rattle.perf_flame.proofs.Turning.{map_reverse}
use Rattle.perf_flame.proofs.keys.turned.Goals as goal

pub returns : goal.returns
returns c = ap (map (λ (x : Bor (List ℕ)). x.now)) c.reverse.ensures.items ∙ map_reverse (λ (x : Bor (List ℕ)). x.now) c.args.frames.items
