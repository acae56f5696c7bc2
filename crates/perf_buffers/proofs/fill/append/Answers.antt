use Rattle.std.proofs.Common.{None, arith}
use Rattle.perf_buffers.proofs.Chunks.{stays_then}
use Rattle.perf_buffers.proofs.Takes.{takes_more, append_on}
use Rattle.perf_buffers.proofs.fill.append.Goals as goal

pub loop-at-preserved : goal.loop-at-preserved
loop-at-preserved g c =
    let i = c.loop-at.invariant in let e = c.in-Ok.ensures in let n = c.in-Ok.count in (
      omega (arith, i.0, e.count.1),
      stays_then (g.B.ParseBuf.source c.args.buf.now) (g.B.ParseBuf.source c.loop-at.buf) (g.B.ParseBuf.source c.append_some.new.buf) None i.1 e.stays,
      omega (arith, i.2, e.count.2),
      omega (arith, i.3, e.capacity),
      (λ told. let k = i.4 told in let o = e.ok (i.1.3 told) in (
        takes_more (g.B.ParseBuf.source c.args.buf.now) (g.B.ParseBuf.source c.loop-at.buf) (g.B.ParseBuf.source c.append_some.new.buf) c.loop-at.at n k.0 o.0,
        append_on c.args.out.now.items c.loop-at.out.items c.append_some.new.out.items (g.B.ParseBuf.source c.args.buf.now).left (g.B.ParseBuf.source c.loop-at.buf).left c.loop-at.at n k.1 k.0.1 o.1,
      )),
    )
