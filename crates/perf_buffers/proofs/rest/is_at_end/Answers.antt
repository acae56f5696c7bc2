use Rattle.std.proofs.Common.{rules, arith, ◌≡◌, refl, ap, length}
use Rattle.std.proofs.lemmas.Bool.{false≢true}
use Rattle.std.specs.Prelude.{◌≢◌}
use Rattle.perf_buffers.specs.Buffer.{Source, chunk_bytes}
use Rattle.perf_buffers.specs.Prelude.{kind_of, Eof}
use Rattle.perf_buffers.proofs.Shown.{refused_chunk, refused_can_fail, refused_no_memory, refused_rest, shown_chunk, shown_within}
use Rattle.perf_buffers.proofs.rest.is_at_end.Goals as goal

pub returns-in-Ok : goal.returns-in-Ok
returns-in-Ok g c =
    let old : Source = g.B.ParseBuf.source c.args.buf.now in
    let new : Source = g.B.ParseBuf.source c.chunk.follows.lender-at-none in
    let s = shown_chunk old new c.chunk.result c.in-Ok.field-0 _ c.in-Ok.is c.chunk.ensures.shows c.chunk.follows.holds-at-none in record {
      stays = s.stays;
      can_fail = tt;
      memory = tt;
      kept = s.same;
      ok = λ told. (
        (λ end. absurd (false≢true end)),
        (λ none. absurd (omega (arith, s.shows.0, shown_within old.left (chunk_bytes c.in-Ok.field-0) (s.shows.1 told), ap length none))),
      );
      err = λ told. tt;
    }

pub returns-in-Err : goal.returns-in-Err
returns-in-Err g c =
    let old : Source = g.B.ParseBuf.source c.args.buf.now in
    let new : Source = g.B.ParseBuf.source c.chunk.follows.lender-at-none in
    let end : Eof ≡ kind_of c.in-Err.error = search rules in
    let r = refused_chunk old new c.chunk.result c.in-Err.error Eof _ end c.in-Err.is c.chunk.ensures.refuses c.chunk.follows.holds-at-none in record {
      stays = r.stays;
      can_fail = tt;
      memory = tt;
      kept = r.same;
      ok = λ told. ((λ end. r.why told), (λ none. refl));
      err = λ told. tt;
    }

pub returns-in-Err-2 : goal.returns-in-Err-2
returns-in-Err-2 g c =
    let old : Source = g.B.ParseBuf.source c.args.buf.now in
    let new : Source = g.B.ParseBuf.source c.chunk.follows.lender-at-none in
    let more : kind_of c.in-Err.error ≢ Eof = search rules in
    let r = refused_chunk old new c.chunk.result c.in-Err.error (kind_of c.in-Err.error) _ refl c.in-Err.is c.chunk.ensures.refuses c.chunk.follows.holds-at-none in record {
      stays = r.stays;
      can_fail = refused_can_fail old _ r.why;
      memory = refused_no_memory old _ r.why;
      kept = r.same;
      ok = λ told. tt;
      err = refused_rest old new _ more r;
    }
