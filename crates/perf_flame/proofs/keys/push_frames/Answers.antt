use Rattle.std.proofs.Common.{◌++◌, List, ℕ, Bor, ap, ◌∙◌, arith}
use Rattle.std.specs.List.{flat_map}
use Rattle.std.proofs.lemmas.List.{take_all}
use Rattle.perf_flame.specs.Keys.{frame_key}
use Rattle.perf_flame.proofs.Turning.{flat_map_of_map}
use Rattle.perf_flame.proofs.keys.push_frames.Goals as goal

pub returns : goal.returns
returns c =
    let frames = c.args.frames.now in
    c.loop-frame.invariant
    ∙ ap (λ bytes. c.args.key.now.items ++ bytes)
    (ap (flat_map (λ (x : Bor (List ℕ)). frame_key x.now)) (take_all c.loop-frame.frame-index frames (omega (arith, c.loop-frame-test.false)))
    ∙ flat_map_of_map frame_key (λ (x : Bor (List ℕ)). x.now) frames)
