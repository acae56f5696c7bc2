use Rattle.std.proofs.Common.{◌-◌, ◌≤◌, None}
use Rattle.std.specs.Prelude.{IsTrue}
use Rattle.perf_buffers.specs.Buffer.{BufferInvariant}
use Rattle.perf_buffers.specs.Taking.{Takes}
use Rattle.perf_buffers.proofs.cut.skip.Given as goal

abbrev pub invariant-loop-at : goal.invariant-loop-at
invariant-loop-at g l =
    (l.at ≤ l.len) × BufferInvariant (g.B.ParseBuf.source l.initial.buf) None (g.B.ParseBuf.source l.buf)
    × (IsTrue (g.B.ParseBuf.source l.initial.buf).told → Takes (g.B.ParseBuf.source l.initial.buf) l.at (g.B.ParseBuf.source l.buf))

abbrev pub decreases-loop-at : goal.decreases-loop-at
decreases-loop-at g l = l.len - l.at
