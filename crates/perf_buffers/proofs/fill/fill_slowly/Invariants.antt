use Rattle.std.proofs.Common.{◌≡◌, ◌-◌, ◌≤◌, length, take, None}
use Rattle.std.specs.Prelude.{IsTrue}
use Rattle.perf_buffers.specs.Buffer.{BufferInvariant}
use Rattle.perf_buffers.specs.Taking.{Takes}
use Rattle.perf_buffers.proofs.fill.fill_slowly.Given as goal

abbrev pub invariant-loop-at : goal.invariant-loop-at
invariant-loop-at g l =
    (l.at ≤ length l.out)
    × BufferInvariant (g.B.ParseBuf.source l.initial.buf) None (g.B.ParseBuf.source l.buf)
    × (IsTrue (g.B.ParseBuf.source l.initial.buf).told → Takes (g.B.ParseBuf.source l.initial.buf) l.at (g.B.ParseBuf.source l.buf)
    × (take l.at l.out ≡ take l.at (g.B.ParseBuf.source l.initial.buf).left))

abbrev pub decreases-loop-at : goal.decreases-loop-at
decreases-loop-at g l = length l.initial.out - l.at
