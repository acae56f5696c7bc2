use Rattle.std.proofs.Common.{refl, ◌≤◌, ◌∙◌, List, ℕ, length, ap, subst}
use Rattle.std.proofs.lemmas.List.{length-take-le}
use Rattle.perf_buffers.specs.Buffer.{Source, chunk_bytes, chunk_is_borrowed}
use Rattle.perf_buffers.specs.Prelude.{refusal_kind}
use Rattle.perf_buffers.proofs.Shown.{refused_chunk, refused_can_fail, refused_no_memory, refused_keep, shown_chunk, taken_chunk, whole_is_short}
use Rattle.perf_buffers.proofs.frame_reader.read_in_place.Goals as goal

pub returns-in-Err : goal.returns-in-Err
returns-in-Err g c =
    let old : Source = g.B.ParseBuf.source c.args.buf.now in
    let new : Source = g.B.ParseBuf.source c.chunk.follows.lender-at-none in
    let r = refused_chunk old new c.chunk.result c.in-Err.error (refusal_kind c.keep.result) _ c.keep.ensures c.in-Err.is c.chunk.ensures.refuses c.chunk.follows.holds-at-none in record {
      stays = r.stays;
      can_fail = refused_can_fail old _ r.why;
      memory = refused_no_memory old _ r.why;
      ok = tt;
      same = refl {a = c.args.state.now};
      err = refused_keep old new c.args.len _ c.requires.some r;
    }

pub returns-then-as_bytes-len : goal.returns-then-as_bytes-len
returns-then-as_bytes-len g c =
    let old : Source = g.B.ParseBuf.source c.args.buf.now in
    let new : Source = g.B.ParseBuf.source c.chunk.follows.lender-at-none in
    let s = shown_chunk old new c.chunk.result c.in-Ok.chunk _ c.in-Ok.is c.chunk.ensures.shows c.chunk.follows.holds-at-none in record {
      stays = s.stays;
      can_fail = tt;
      memory = tt;
      ok = (refl {a = c.args.reader}, refl {a = c.args.state.now}, s.same, whole_is_short old new _ c.as_bytes.result.now c.in-Ok.chunk c.args.len s c.as_bytes.ensures c.if-as_bytes-len.true);
      same = tt;
      err = λ told. tt;
    }

pub returns : goal.returns
returns g c =
    let old : Source = g.B.ParseBuf.source c.args.buf.now in
    let new : Source = g.B.ParseBuf.source c.chunk.follows.lender-at-none in
    let after : Source = g.B.ParseBuf.source c.advance.new.self in
    let s = shown_chunk old new c.chunk.result c.in-Ok.chunk _ c.in-Ok.is c.chunk.ensures.shows c.chunk.follows.holds-at-none in
    let within : c.args.len ≤ length (chunk_bytes c.in-Ok.chunk) = subst (λ (xs : List ℕ). c.args.len ≤ length xs) c.as_bytes.ensures c.if-as_bytes-len.false in
    let t = taken_chunk old new after c.in-Ok.chunk _ c.args.len s within c.advance.ensures in record {
      stays = t.stays;
      can_fail = tt;
      memory = tt;
      ok = (
        chunk_bytes c.first.result,
        chunk_is_borrowed c.first.result,
        c.read-output.ensures,
        ap length c.first.ensures.bytes ∙ length-take-le c.args.len (chunk_bytes c.in-Ok.chunk) within,
        (λ told. (t.takes told, c.first.ensures.bytes ∙ t.bytes told)),
        (λ whole. c.first.ensures.borrowed ∙ (s.shows.2 whole).1),
      );
      same = tt;
      err = λ told. tt;
    }
