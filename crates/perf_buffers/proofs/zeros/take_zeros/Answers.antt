use Rattle.std.proofs.Common.{None, refl, arith}
use Rattle.perf_buffers.proofs.Chunks.{stays_then}
use Rattle.perf_buffers.proofs.Takes.{takes_more, zero_on}
use Rattle.perf_buffers.proofs.zeros.take_zeros.Goals as goal

pub loop-at-preserved : goal.loop-at-preserved
loop-at-preserved g c =
    let i = c.loop-at.invariant in let e = c.in-Ok.ensures in let n = c.in-Ok.taken.0 in (
      omega (arith, i.0, e.count.1),
      stays_then (g.B.ParseBuf.source c.args.buf.now) (g.B.ParseBuf.source c.loop-at.buf) (g.B.ParseBuf.source c.take_some_zeros.new.buf) None i.1 e.stays,
      (λ told. let k = i.2 told in let o = e.ok (i.1.3 told) in (
        takes_more (g.B.ParseBuf.source c.args.buf.now) (g.B.ParseBuf.source c.loop-at.buf) (g.B.ParseBuf.source c.take_some_zeros.new.buf) c.loop-at.at n k.0 o.0,
        zero_on c.loop-at.at n (g.B.ParseBuf.source c.args.buf.now).left (g.B.ParseBuf.source c.loop-at.buf).left c.loop-at.zero c.in-Ok.taken.1 _ k.0.1 k.1 o.1 refl,
      )),
    )
