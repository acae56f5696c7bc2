use Rattle.std.proofs.Common.{rules, refl, false, ap, length, arith, ◌<◌, ◌∙◌, ◌≡◌, List, ℕ, take, sym, subst}
use Rattle.std.specs.Prelude.{◌≢◌}
use Rattle.std.proofs.lemmas.Bool.{false≢true}
use Rattle.perf_buffers.specs.Buffer.{Source, chunk_bytes, chunk_is_borrowed}
use Rattle.perf_buffers.specs.Prelude.{kind_of, Eof}
use Rattle.perf_buffers.proofs.Shown.{refused_chunk, refused_can_fail, refused_no_memory, refused_rest, shown_chunk, taken_chunk, whole_is_lent, shown_within}
use Rattle.perf_buffers.proofs.rest.lend_first.Goals as goal

pub returns-in-Ok-Temporary : goal.returns-in-Ok-Temporary
returns-in-Ok-Temporary g c =
    let old : Source = g.B.ParseBuf.source c.args.buf.now in
    let new : Source = g.B.ParseBuf.source c.chunk.follows.lender-at-none in
    let s = shown_chunk old new c.chunk.result c.in-Ok-Temporary.field-0 _ c.in-Ok-Temporary.is c.chunk.ensures.shows c.chunk.follows.holds-at-none in record {
      stays = s.stays;
      can_fail = tt;
      whole = λ w. absurd (false≢true (whole_is_lent old new _ c.in-Ok-Temporary.field-0 false s (ap chunk_is_borrowed c.in-Ok-Temporary.field-0-is) w));
      memory = tt;
      ok = λ told.
          let some : 0 < length old.left = omega (arith, s.shows.0, shown_within old.left (chunk_bytes c.in-Ok-Temporary.field-0) (s.shows.1 told)) in
          ((omega arith, s.same told), refl, some);
      err = λ told. tt;
    }

pub returns-in-Err : goal.returns-in-Err
returns-in-Err g c =
    let old : Source = g.B.ParseBuf.source c.args.buf.now in
    let new : Source = g.B.ParseBuf.source c.chunk.follows.lender-at-none in
    let end : Eof ≡ kind_of c.in-Err.error = search rules in
    let r = refused_chunk old new c.chunk.result c.in-Err.error Eof _ end c.in-Err.is c.chunk.ensures.refuses c.chunk.follows.holds-at-none in record {
      stays = r.stays;
      can_fail = tt;
      whole = λ w. tt;
      memory = tt;
      ok = λ told. (r.why told, r.same told ∙ r.why told);
      err = λ told. tt;
    }

pub returns-in-Err-2 : goal.returns-in-Err-2
returns-in-Err-2 g c =
    let old : Source = g.B.ParseBuf.source c.args.buf.now in
    let new : Source = g.B.ParseBuf.source c.chunk.follows.lender-at-none in
    let r = refused_chunk old new c.chunk.result c.in-Err.error (kind_of c.in-Err.error) _ refl c.in-Err.is c.chunk.ensures.refuses c.chunk.follows.holds-at-none in
    let more : kind_of c.in-Err.error ≢ Eof = search rules in record {
      stays = r.stays;
      can_fail = refused_can_fail old _ r.why;
      whole = λ w. tt;
      memory = refused_no_memory old _ r.why;
      ok = λ told. tt;
      err = refused_rest old new _ more r;
    }

pub returns : goal.returns
returns g c =
    let old : Source = g.B.ParseBuf.source c.args.buf.now in
    let new : Source = g.B.ParseBuf.source c.chunk.follows.lender-at-none in
    let after : Source = g.B.ParseBuf.source c.advance.new.self in
    let chunk = c.in-Ok-External.field-0 in
    let bytes : List ℕ = c.in-Ok-External.bytes.now in
    let shown : chunk_bytes chunk ≡ bytes = ap chunk_bytes c.in-Ok-External.field-0-is in
    let s = shown_chunk old new c.chunk.result chunk _ c.in-Ok-External.is c.chunk.ensures.shows c.chunk.follows.holds-at-none in
    let t = taken_chunk old new after chunk _ (length bytes) s (omega (arith, ap length shown)) c.advance.ensures in record {
      stays = t.stays;
      can_fail = tt;
      whole = λ w. let all = s.shows.2 w in (all.2, sym shown ∙ all.0);
      memory = tt;
      ok = λ told.
          let first : take (length bytes) old.left ≡ bytes = subst (λ (xs : List ℕ). take (length xs) old.left ≡ xs) shown (s.shows.1 told) in
          let some : 0 < length old.left = omega (arith, s.shows.0, shown_within old.left (chunk_bytes chunk) (s.shows.1 told)) in
          (t.takes told, sym first, some);
      err = λ told. tt;
    }
