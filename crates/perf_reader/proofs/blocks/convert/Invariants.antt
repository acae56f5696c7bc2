use Rattle.std.proofs.Common.{◌≡◌, take, map}
use Rattle.perf_reader.proofs.blocks.convert.Given as goal

-- as many numbers as were counted are in their places
abbrev pub invariant-loop-i : goal.invariant-loop-i
invariant-loop-i g l =
    take l.i l.numbers ≡ map (g.E.Endian.order l.order).eight (take l.i l.chunks)
