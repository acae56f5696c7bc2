use Rattle.perf_buffers.specs.Buffer.{Source}
use Rattle.std.proofs.lemmas.Bool.{false≢true}
use Rattle.std.proofs.Common.{false, ap}
use Rattle.std.proofs.Common.{rules, ◌≡◌, ◌≤◌, ◌∙◌, List, ℕ, length, take, subst}
use Rattle.std.proofs.lemmas.List.{length-take-le}
use Rattle.std.specs.Prelude.{IsTrue}
use Rattle.perf_buffers.specs.Cursor.{content_left, ContentIsAtStart, content_is_borrowed}
use Rattle.perf_buffers.specs.Buffer.{chunk_bytes, Advances}
use Rattle.perf_buffers.proofs.cut.cut_at_once.Goals.{in-External, in-Temporary+in-Ok-from_slice}
use Rattle.perf_buffers.specs.Buffer.{chunk_is_borrowed}
use Rattle.perf_buffers.specs.Prelude.{refusal_kind}
use Rattle.perf_buffers.proofs.Shown.{refused_chunk, refused_can_fail, refused_no_memory, refused_keep, shown_chunk, taken_chunk, whole_is_short, whole_is_lent, moves_none_within}
use Rattle.perf_buffers.proofs.cut.cut_at_once.Goals as goal

pub returns-in-Err : goal.returns-in-Err
returns-in-Err g c =
    let old : Source = g.B.ParseBuf.source c.args.buf.now in
    let new : Source = g.B.ParseBuf.source c.chunk.follows.lender-at-none in
    let r = refused_chunk old new c.chunk.result c.in-Err.error (refusal_kind c.keep.result) _ c.keep.ensures c.in-Err.is c.chunk.ensures.refuses c.chunk.follows.holds-at-none in record {
      stays = r.stays;
      can_fail = refused_can_fail old _ r.why;
      whole = λ w. tt;
      whole_memory = λ w. refused_no_memory old _ r.why;
      beforehand = λ told all none. r.same told;
      count = tt;
      start = tt;
      ok = λ told. tt;
      err = refused_keep old new c.args.len _ c.requires r;
    }

pub returns-then-as_bytes-len : goal.returns-then-as_bytes-len
returns-then-as_bytes-len g c =
    let old : Source = g.B.ParseBuf.source c.args.buf.now in
    let new : Source = g.B.ParseBuf.source c.chunk.follows.lender-at-none in
    let s = shown_chunk old new c.chunk.result c.in-Ok.chunk _ c.in-Ok.is c.chunk.ensures.shows c.chunk.follows.holds-at-none in record {
      stays = s.stays;
      can_fail = tt;
      whole = whole_is_short old new _ c.as_bytes.result.now c.in-Ok.chunk c.args.len s c.as_bytes.ensures c.if-as_bytes-len.true;
      whole_memory = λ w. tt;
      beforehand = λ told all. tt;
      count = tt;
      start = tt;
      ok = s.same;
      err = λ told. tt;
    }

pub returns-in-Err-from_slice : goal.returns-in-Err-from_slice
returns-in-Err-from_slice g c =
    let old : Source = g.B.ParseBuf.source c.args.buf.now in
    let new : Source = g.B.ParseBuf.source c.chunk.follows.lender-at-none in
    let s = shown_chunk old new c.chunk.result c.in-Ok.chunk _ c.in-Ok.is c.chunk.ensures.shows c.chunk.follows.holds-at-none in record {
      stays = s.stays;
      can_fail = tt;
      whole = λ w. tt;
      whole_memory = λ w none. false≢true (whole_is_lent old new _ c.in-Ok.chunk false s (ap chunk_is_borrowed c.in-Temporary.is) w);
      beforehand = λ told all none. s.same told;
      count = tt;
      start = tt;
      ok = λ told. tt;
      err = λ told. moves_none_within old new c.args.len (s.same told);
    }

pub returns : goal.returns
returns g c =
    let old : Source = g.B.ParseBuf.source c.args.buf.now in
    let new : Source = g.B.ParseBuf.source c.chunk.follows.lender-at-none in
    let after : Source = g.B.ParseBuf.source c.advance.new.self in
    let chunk = c.in-Ok.chunk in
    let content = c.match-chunk-2.content in
    let s = shown_chunk old new c.chunk.result chunk _ c.in-Ok.is c.chunk.ensures.shows c.chunk.follows.holds-at-none in
    let within : c.args.len ≤ length (chunk_bytes chunk) = subst (λ (xs : List ℕ). c.args.len ≤ length xs) c.as_bytes.ensures c.if-as_bytes-len.false in
    let k : (c.match-chunk-2.buf ≡ c.chunk.follows.lender-at-none) × (content_left content ≡ take c.args.len (chunk_bytes chunk)) × ContentIsAtStart content × (IsTrue (chunk_is_borrowed chunk) → IsTrue (content_is_borrowed content)) =
    elim c.match-chunk-2.branch [ in-External w ↦ (w.buf-is, search rules, search rules, search rules) | in-Temporary+in-Ok-from_slice w ↦ (w.buf-is, search rules, search rules, search rules) ] in
    let moved : Advances new c.args.len after = subst (λ (b : g.row.B.Denot). Advances (g.B.ParseBuf.source b) c.args.len after) k.0 c.advance.ensures in
    let t = taken_chunk old new after chunk _ c.args.len s within moved in
    record {
      stays = t.stays;
      can_fail = tt;
      whole = λ w. k.3 (s.shows.2 w).1;
      whole_memory = λ w. tt;
      beforehand = λ told all. tt;
      count = ap length k.1 ∙ length-take-le c.args.len (chunk_bytes chunk) within;
      start = k.2;
      ok = λ told. (t.takes told, k.1 ∙ t.bytes told);
      err = λ told. tt;
    }
