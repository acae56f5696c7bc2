use Rattle.std.proofs.Common.{◌≡◌, ◌++◌, take}
use Rattle.perf_flame.specs.Svg.{escaped}
use Rattle.perf_flame.proofs.svg.push_escaped.Given as goal

abbrev pub invariant-loop-byte : goal.invariant-loop-byte
invariant-loop-byte l = l.text.items ≡ l.fn.text.items ++ escaped (take l.byte-index l.bytes)
