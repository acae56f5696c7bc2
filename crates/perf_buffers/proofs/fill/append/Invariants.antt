use Rattle.std.proofs.Common.{◌≡◌, ◌-◌, ◌+◌, ◌≤◌, take, None, ◌++◌, vec_len}
use Rattle.std.specs.Prelude.{IsTrue, vec_capacity}
use Rattle.perf_buffers.specs.Buffer.{BufferInvariant}
use Rattle.perf_buffers.specs.Taking.{Takes}
use Rattle.perf_buffers.proofs.fill.append.Given as goal

abbrev pub invariant-loop-at : goal.invariant-loop-at
invariant-loop-at g l =
    (l.at ≤ l.len) × BufferInvariant (g.B.ParseBuf.source l.initial.buf) None (g.B.ParseBuf.source l.buf)
    × (vec_len l.out ≡ vec_len l.initial.out + l.at) × (vec_capacity l.initial.out ≤ vec_capacity l.out)
    × (IsTrue (g.B.ParseBuf.source l.initial.buf).told → Takes (g.B.ParseBuf.source l.initial.buf) l.at (g.B.ParseBuf.source l.buf)
    × (l.out.items ≡ l.initial.out.items ++ take l.at (g.B.ParseBuf.source l.initial.buf).left))

abbrev pub decreases-loop-at : goal.decreases-loop-at
decreases-loop-at g l = l.len - l.at
