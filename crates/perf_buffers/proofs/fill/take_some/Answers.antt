use Rattle.std.proofs.Common.{arith, ap, length, ℕ, List, ◌≤◌, ◌∙◌, ◌≡◌, take, drop, refl}
use Rattle.std.proofs.lemmas.List.{take_at, length-take-le}
use Rattle.std.specs.Prelude.{IsTrue}
use Rattle.perf_buffers.specs.Buffer.{Source, chunk_bytes}
use Rattle.perf_buffers.specs.Prelude.{kind_of}
use Rattle.perf_buffers.proofs.Shown.{refused_chunk, refused_can_fail, refused_no_memory, refused_take, shown_chunk, taken_chunk, shown_most, passed_on, no_value, if_refused, stays_refused, can_fail_refused}
use Rattle.perf_buffers.proofs.fill.take_some.Goals as goal

pub returns-in_err-chunk : goal.returns-in_err-chunk
returns-in_err-chunk g c =
    let old : Source = g.B.ParseBuf.source c.args.buf.now in
    let new : Source = g.B.ParseBuf.source c.chunk.follows.lender-at-none in
    let e = c.in_err-chunk.field-0.0 in
    let is = passed_on c.from_residual.result e c.from_residual.ensures.1 in
    let r = refused_chunk old new c.chunk.result e (kind_of e) _ refl c.in_err-chunk.was c.chunk.ensures.refuses c.chunk.follows.holds-at-none in record {
      stays = stays_refused old new _ e is r.stays;
      can_fail = can_fail_refused old _ e is (refused_can_fail old _ r.why);
      count = no_value _ _ e is;
      memory = if_refused _ _ e is (refused_no_memory old _ r.why);
      ok = λ told. no_value _ _ e is;
      err = λ told. if_refused _ _ e is (refused_take old new (length c.args.out.now) _ c.requires r told);
    }

pub returns : goal.returns
returns g c =
    let old : Source = g.B.ParseBuf.source c.args.buf.now in
    let new : Source = g.B.ParseBuf.source c.chunk.follows.lender-at-none in
    let after : Source = g.B.ParseBuf.source c.advance.new.self in
    let chunk = c.in_ok-chunk.chunk in
    let bytes : List ℕ = c.as_bytes-bytes.result.now in
    let n : ℕ = c.min-count.result in
    let s = shown_chunk old new c.chunk.result chunk _ c.in_ok-chunk.was c.chunk.ensures.shows c.chunk.follows.holds-at-none in
    let m = shown_most (chunk_bytes chunk) bytes (length c.args.out.now) n c.as_bytes-bytes.ensures c.min-count.ensures s.shows.0 c.requires in
    let t = taken_chunk old new after chunk _ n s m.0 c.advance.ensures in
    let first : IsTrue old.told → take n bytes ≡ take n old.left = λ told. ap (λ xs. take n xs) c.as_bytes-bytes.ensures ∙ t.bytes told in
    let within : n ≤ length bytes = omega (arith, m.0, ap length c.as_bytes-bytes.ensures) in
    let copied : length c.copy_from_slice.new.self ≡ n = ap length c.copy_from_slice.ensures.after ∙ length-take-le n bytes within in
    record {
      stays = t.stays;
      can_fail = tt;
      count = (m.2, m.1);
      memory = tt;
      ok = λ told. (t.takes told, take_at c.copy_from_slice.new.self (drop n c.args.out.now) n copied ∙ c.copy_from_slice.ensures.after ∙ first told);
      err = λ told. tt;
    }
