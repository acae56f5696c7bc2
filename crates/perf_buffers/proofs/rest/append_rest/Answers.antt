use Rattle.std.proofs.Common.{rules, ◌≡◌, sym, subst}
use Rattle.std.specs.Prelude.{Some, ◌≢◌}
use Rattle.perf_base.specs.declared.error.ErrorKind.{ErrorKind}
use Rattle.perf_buffers.specs.Buffer.{Source, BufferInvariant}
use Rattle.perf_buffers.specs.Taking.{FailsInRest, CanFail}
use Rattle.perf_buffers.specs.Prelude.{kind_of, Eof, OutOfMemory}
use Rattle.perf_buffers.proofs.Shown.{keeps_end, keeps_rest}
use Rattle.perf_buffers.proofs.Takes.{takes_moves}
use Rattle.perf_buffers.proofs.rest.append_rest.Goals as goal

pub returns-in-Ok : goal.returns-in-Ok
returns-in-Ok g c =
    let old : Source = g.B.ParseBuf.source c.args.buf.now in
    let new : Source = g.B.ParseBuf.source c.append.new.buf in
    let a = c.in-Ok.ensures in
    let kind : c.out_of_memory.result.kind ≡ OutOfMemory = c.out_of_memory.ensures.kind_is in record {
      stays = subst (λ (k : ErrorKind). BufferInvariant old (Some k) new) (sym kind) a.stays;
      can_fail = subst (λ (k : ErrorKind). CanFail old (Some k)) (sym kind) tt;
      ok = λ told. tt;
      err = λ told. subst (λ (k : ErrorKind). FailsInRest old k new) (sym kind) (takes_moves old new _ (a.ok told).0);
    }

pub returns-in-Err : goal.returns-in-Err
returns-in-Err g c =
    let old : Source = g.B.ParseBuf.source c.args.buf.now in
    let new : Source = g.B.ParseBuf.source c.append.new.buf in
    let a = c.in-Err.ensures in
    let end : kind_of c.in-Err.error ≡ Eof = search rules in record {
      stays = subst (λ (k : ErrorKind). BufferInvariant old (Some k) new) end a.stays;
      can_fail = tt;
      ok = λ told. (a.end told end, keeps_end old new _ _ end (a.err told));
      err = λ told. tt;
    }

pub returns-in-Err-2 : goal.returns-in-Err-2
returns-in-Err-2 g c =
    let old : Source = g.B.ParseBuf.source c.args.buf.now in
    let new : Source = g.B.ParseBuf.source c.append.new.buf in
    let a = c.in-Err.ensures in
    let more : kind_of c.in-Err.error ≢ Eof = search rules in record {
      stays = a.stays;
      can_fail = a.can_fail;
      ok = λ told. tt;
      err = λ told. keeps_rest old new _ _ more (a.err told);
    }
