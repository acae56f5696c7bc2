use Rattle.std.proofs.Common.{◌≡◌, ◌++◌, map, take}
use Rattle.perf_flame.specs.Stacks.{clean}
use Rattle.perf_flame.proofs.stack.Stack.push_clean.Given as goal

abbrev pub invariant-loop-byte : goal.invariant-loop-byte
invariant-loop-byte l = l.self.bytes.items ≡ l.fn.self.bytes.items ++ map clean (take l.byte-index l.name)
