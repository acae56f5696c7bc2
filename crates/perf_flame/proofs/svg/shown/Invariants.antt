use Rattle.std.proofs.Common.{◌≡◌, take}
use Rattle.perf_flame.specs.Svg.{shown}
use Rattle.perf_flame.proofs.svg.shown.Given as goal

abbrev pub invariant-loop-byte : goal.invariant-loop-byte
invariant-loop-byte l = l.text.items ≡ shown (take l.byte-index l.name)
