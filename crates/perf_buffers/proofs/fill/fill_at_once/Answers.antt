use Rattle.std.proofs.Common.{length, ℕ, List, ◌≤◌, ◌∙◌, ap, take, subst}
use Rattle.perf_buffers.specs.Buffer.{Source, chunk_bytes}
use Rattle.perf_buffers.specs.Prelude.{refusal_kind}
use Rattle.perf_buffers.proofs.Shown.{refused_chunk, refused_can_fail, refused_no_memory, refused_take, shown_chunk, taken_chunk}
use Rattle.perf_buffers.proofs.fill.fill_at_once.Goals as goal

pub returns-in-Err : goal.returns-in-Err
returns-in-Err g c =
    let old : Source = g.B.ParseBuf.source c.args.buf.now in
    let new : Source = g.B.ParseBuf.source c.chunk.follows.lender-at-none in
    let r = refused_chunk old new c.chunk.result c.in-Err.error (refusal_kind c.keep.result) _ c.keep.ensures c.in-Err.is c.chunk.ensures.refuses c.chunk.follows.holds-at-none in record {
      stays = r.stays;
      can_fail = refused_can_fail old _ r.why;
      memory = refused_no_memory old _ r.why;
      ok = λ told. tt;
      err = refused_take old new (length c.args.out.now) _ c.requires r;
    }

pub returns-then-bytes-count : goal.returns-then-bytes-count
returns-then-bytes-count g c =
    let old : Source = g.B.ParseBuf.source c.args.buf.now in
    let new : Source = g.B.ParseBuf.source c.chunk.follows.lender-at-none in
    let s = shown_chunk old new c.chunk.result c.in-Ok.chunk _ c.in-Ok.is c.chunk.ensures.shows c.chunk.follows.holds-at-none in record {
      stays = s.stays;
      can_fail = tt;
      memory = tt;
      ok = s.same;
      err = λ told. tt;
    }

pub returns : goal.returns
returns g c =
    let old : Source = g.B.ParseBuf.source c.args.buf.now in
    let new : Source = g.B.ParseBuf.source c.chunk.follows.lender-at-none in
    let after : Source = g.B.ParseBuf.source c.advance.new.self in
    let n : ℕ = length c.args.out.now in
    let bytes : List ℕ = c.as_bytes-bytes.result.now in
    let s = shown_chunk old new c.chunk.result c.in-Ok.chunk _ c.in-Ok.is c.chunk.ensures.shows c.chunk.follows.holds-at-none in
    let within : n ≤ length (chunk_bytes c.in-Ok.chunk) = subst (λ (xs : List ℕ). n ≤ length xs) c.as_bytes-bytes.ensures c.if-bytes-count.false in
    let t = taken_chunk old new after c.in-Ok.chunk _ n s within c.advance.ensures in record {
      stays = t.stays;
      can_fail = tt;
      memory = tt;
      ok = λ told. (t.takes told, c.copy_from_slice.ensures.after ∙ ap (λ xs. take n xs) c.as_bytes-bytes.ensures ∙ t.bytes told);
      err = λ told. tt;
    }
