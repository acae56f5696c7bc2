use Rattle.std.proofs.Common.{◌≡◌, take}
use Rattle.perf_flame.specs.Svg.{hash}
use Rattle.perf_flame.proofs.svg.hash.Given as goal

abbrev pub invariant-loop-byte : goal.invariant-loop-byte
invariant-loop-byte l = l.found ≡ hash (take l.byte-index l.name)
