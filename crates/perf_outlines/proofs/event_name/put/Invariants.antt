use Rattle.std.proofs.Common.{◌≡◌, ◌++◌, ℕ, List, take, length, min}
use Rattle.perf_outlines.specs.FlatNames.{over}
use Rattle.perf_outlines.proofs.event_name.put.Given as goal

abbrev pub invariant-loop-byte : goal.invariant-loop-byte
invariant-loop-byte l = (done old : List ℕ) → l.initial.out ≡ over done old → l.start ≡ min (length done) (length old) →
    (l.out ≡ over (done ++ take l.byte-index l.text) old) × (l.at ≡ min (length (done ++ take l.byte-index l.text)) (length old))
