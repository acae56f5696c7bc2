use Rattle.std.proofs.Common.{◌≡◌, ◌++◌, map, take}
use Rattle.perf_flame.specs.Stacks.{clean}
use Rattle.perf_flame.proofs.keys.push_frame.Given as goal

abbrev pub invariant-loop-byte : goal.invariant-loop-byte
invariant-loop-byte l = l.key.items ≡ l.fn.key.items ++ map clean (take l.byte-index l.name)
