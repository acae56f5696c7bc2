use Rattle.std.proofs.Common.{rules, arith, ap, sym, ℕ, List, ◌∙◌, ◌≡◌, ◌++◌, take, refl, subst}
use Rattle.std.specs.Prelude.{Some, IsTrue}
use Rattle.perf_buffers.specs.Buffer.{Source, BufferInvariant, chunk_bytes}
use Rattle.perf_buffers.specs.Prelude.{kind_of, CanFail, OutOfMemory}
use Rattle.perf_base.specs.declared.error.ErrorKind.{ErrorKind}
use Rattle.perf_buffers.proofs.Shown.{refused_chunk, refused_can_fail, refused_no_memory, refused_keep, shown_chunk, taken_chunk, shown_most, passed_on, no_value, if_refused, stays_refused, can_fail_refused, moves_none_within, refused_end}
use Rattle.perf_buffers.specs.Taking.{FailsToKeep}
use Rattle.perf_buffers.proofs.fill.append_some.Goals as goal

pub returns-in_err-chunk : goal.returns-in_err-chunk
returns-in_err-chunk g c =
    let old : Source = g.B.ParseBuf.source c.args.buf.now in
    let new : Source = g.B.ParseBuf.source c.chunk.follows.lender-at-none in
    let e = c.in_err-chunk.field-0.0 in
    let is = passed_on c.from_residual.result e c.from_residual.ensures.1 in
    let r = refused_chunk old new c.chunk.result e (kind_of e) _ refl c.in_err-chunk.was c.chunk.ensures.refuses c.chunk.follows.holds-at-none in record {
      stays = stays_refused old new _ e is r.stays;
      can_fail = can_fail_refused old _ e is (refused_can_fail old _ r.why);
      room = λ enough. if_refused _ _ e is (refused_no_memory old _ r.why);
      capacity = omega arith;
      count = no_value _ _ e is;
      ok = λ told. no_value _ _ e is;
      end = λ told. if_refused _ _ e is (λ eof. let none = refused_end old new _ eof r told in (none, refl));
      err = λ told. if_refused _ _ e is (refused_keep old new c.args.len _ c.requires r told);
    }

pub returns-then-is_err : goal.returns-then-is_err
returns-then-is_err g c =
    let old : Source = g.B.ParseBuf.source c.args.buf.now in
    let new : Source = g.B.ParseBuf.source c.chunk.follows.lender-at-none in
    let s = shown_chunk old new c.chunk.result c.in_ok-chunk.chunk _ c.in_ok-chunk.was c.chunk.ensures.shows c.chunk.follows.holds-at-none in
    let kind : c.out_of_memory.result.kind ≡ OutOfMemory = c.out_of_memory.ensures.kind_is in record {
      stays = subst (λ (k : ErrorKind). BufferInvariant old (Some k) new) (sym kind) s.stays;
      can_fail = subst (λ (k : ErrorKind). CanFail old (Some k)) (sym kind) tt;
      room = search rules;
      capacity = c.extend_from_slice.ensures.capacity;
      count = tt;
      ok = λ told. tt;
      end = λ told eof. absurd (cc (kind, eof));
      err = λ told. subst (λ (k : ErrorKind). FailsToKeep old c.args.len k new) (sym kind) (moves_none_within old new c.args.len (s.same told));
    }

pub returns : goal.returns
returns g c =
    let old : Source = g.B.ParseBuf.source c.args.buf.now in
    let new : Source = g.B.ParseBuf.source c.chunk.follows.lender-at-none in
    let after : Source = g.B.ParseBuf.source c.advance.new.self in
    let chunk = c.in_ok-chunk.chunk in
    let bytes : List ℕ = c.as_bytes-bytes.result.now in
    let n : ℕ = c.min-count.result in
    let s = shown_chunk old new c.chunk.result chunk _ c.in_ok-chunk.was c.chunk.ensures.shows c.chunk.follows.holds-at-none in
    let m = shown_most (chunk_bytes chunk) bytes c.args.len n c.as_bytes-bytes.ensures c.min-count.ensures s.shows.0 c.requires in
    let t = taken_chunk old new after chunk _ n s m.0 c.advance.ensures in
    let first : IsTrue old.told → take n bytes ≡ take n old.left = λ told. ap (λ xs. take n xs) c.as_bytes-bytes.ensures ∙ t.bytes told in
    let items : c.extend_from_slice.new.self.items ≡ c.args.out.now.items ++ take n bytes = search rules in
    record {
      stays = t.stays;
      can_fail = tt;
      room = λ enough. tt;
      capacity = c.extend_from_slice.ensures.capacity;
      count = (m.2, m.1, search rules);
      ok = λ told. (t.takes told, items ∙ ap (λ xs. c.args.out.now.items ++ xs) (first told));
      end = λ told. tt;
      err = λ told. tt;
    }
