use Rattle.std.proofs.Common.{ap, length, take, ◌≤◌, ◌∙◌, List, ℕ, subst}
use Rattle.perf_buffers.specs.Buffer.{Source, chunk_bytes}
use Rattle.perf_buffers.specs.Prelude.{refusal_kind}
use Rattle.perf_buffers.proofs.Shown.{refused_chunk, shown_chunk, taken_chunk}
use Rattle.perf_buffers.proofs.outer.Outer.take_shown.Goals as goal

pub returns-in-Err : goal.returns-in-Err
returns-in-Err g c =
    let old : Source = g.B.ParseBuf.source c.args.self.now.buf in
    let new : Source = g.B.ParseBuf.source c.chunk.follows.lender-at-none in
    let r = refused_chunk old new c.chunk.result c.in-Err.error (refusal_kind c.keep.result) _ c.keep.ensures c.in-Err.is c.chunk.ensures.refuses c.chunk.follows.holds-at-none in record {
      stays = r.stays;
      ok = tt;
      err = (r.why, r.same);
    }

pub returns-in-None : goal.returns-in-None
returns-in-None g c =
    let old : Source = g.B.ParseBuf.source c.args.self.now.buf in
    let new : Source = g.B.ParseBuf.source c.chunk.follows.lender-at-none in
    let s = shown_chunk old new c.chunk.result c.in-Ok.chunk _ c.in-Ok.is c.chunk.ensures.shows c.chunk.follows.holds-at-none in record {
      stays = s.stays;
      ok = s.same;
      err = tt;
    }

pub returns : goal.returns
returns g c =
    let old : Source = g.B.ParseBuf.source c.args.self.now.buf in
    let new : Source = g.B.ParseBuf.source c.chunk.follows.lender-at-none in
    let after : Source = g.B.ParseBuf.source c.advance.new.self in
    let front = c.in-Some.ensures.cases in
    let s = shown_chunk old new c.chunk.result c.in-Ok.chunk _ c.in-Ok.is c.chunk.ensures.shows c.chunk.follows.holds-at-none in
    let within : g.row.N ≤ length (chunk_bytes c.in-Ok.chunk) = subst (λ (xs : List ℕ). g.row.N ≤ length xs) c.as_bytes.ensures front.enough in
    let t = taken_chunk old new after c.in-Ok.chunk _ g.row.N s within c.advance.ensures in record {
      stays = t.stays;
      ok = λ told. (t.takes told, front.same ∙ ap (λ xs. take g.row.N xs) c.as_bytes.ensures ∙ t.bytes told);
      err = tt;
    }
