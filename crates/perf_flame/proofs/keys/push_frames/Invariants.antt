use Rattle.std.proofs.Common.{◌≡◌, ◌++◌, take, List, ℕ, Bor}
use Rattle.std.specs.List.{flat_map}
use Rattle.perf_flame.specs.Keys.{frame_key}
use Rattle.perf_flame.proofs.keys.push_frames.Given as goal

abbrev pub invariant-loop-frame : goal.invariant-loop-frame
invariant-loop-frame l = l.key.items ≡ l.fn.key.items ++ flat_map (λ (x : Bor (List ℕ)). frame_key x.now) (take l.frame-index l.frames)
