use Rattle.std.proofs.Common.{arith, ap, length}
use Rattle.perf_buffers.specs.Buffer.{Source, chunk_bytes}
use Rattle.perf_buffers.specs.Prelude.{refusal_kind}
use Rattle.perf_buffers.proofs.Shown.{refused_chunk, shown_chunk, shown_within}
use Rattle.perf_buffers.proofs.outer.Outer.frames_shown.Goals as goal

pub returns-in-Ok : goal.returns-in-Ok
returns-in-Ok g c =
    let old : Source = g.B.ParseBuf.source c.args.self.now.buf in
    let new : Source = g.B.ParseBuf.source c.chunk.follows.lender-at-none in
    let s = shown_chunk old new c.chunk.result c.in-Ok.chunk _ c.in-Ok.is c.chunk.ensures.shows c.chunk.follows.holds-at-none in record {
      stays = s.stays;
      same = s.same;
      most = c.count.ensures.most;
      shown = λ told. omega (arith, c.count.ensures.shown, ap length c.as_bytes.ensures, shown_within old.left (chunk_bytes c.in-Ok.chunk) (s.shows.1 told));
      err = tt;
    }

pub returns-in-Err : goal.returns-in-Err
returns-in-Err g c =
    let old : Source = g.B.ParseBuf.source c.args.self.now.buf in
    let new : Source = g.B.ParseBuf.source c.chunk.follows.lender-at-none in
    let r = refused_chunk old new c.chunk.result c.in-Err.error (refusal_kind c.keep.result) _ c.keep.ensures c.in-Err.is c.chunk.ensures.refuses c.chunk.follows.holds-at-none in record {
      stays = r.stays;
      same = r.same;
      most = tt;
      shown = tt;
      err = r.why;
    }
