use Rattle.std.proofs.Common.{◌≡◌, take, map}
use Rattle.perf_sample_types.specs.Branches.{branch_of}
use Rattle.perf_sample_types.proofs.branches.convert.Given as goal

-- as many branches as were counted are in their places
abbrev pub invariant-loop-i : goal.invariant-loop-i
invariant-loop-i g l = take l.i l.branches ≡ map (branch_of (g.E.Endian.order l.order)) (take l.i l.chunks)
