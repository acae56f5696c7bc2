use Rattle.std.proofs.Common.{length, [], ◌≡◌, ◌∙◌, refl, None, sym}
use Rattle.std.specs.Prelude.{Some}
use Rattle.perf_buffers.specs.Prelude.{kind_of}
use Rattle.perf_buffers.proofs.Assembled.{can_fail_later}
use Rattle.perf_buffers.specs.Buffer.{Source}
use Rattle.perf_buffers.proofs.Chunks.{stays_then}
use Rattle.perf_buffers.proofs.Options.{some_matches, none_matches}
use Rattle.perf_buffers.proofs.Takes.{took_all, rest_more}
use Rattle.perf_buffers.proofs.rest.take_rest.Goals as goal

pub returns-in-Ok-true : goal.returns-in-Ok-true
returns-in-Ok-true g c =
    let old : Source = g.B.ParseBuf.source c.args.buf.now in
    let mid : Source = g.B.ParseBuf.source c.lend_first.new.buf in
    let new : Source = g.B.ParseBuf.source c.is_at_end.new.buf in
    let l = c.in-Ok-Some.ensures in
    let e = c.in-Ok-true.ensures in record {
      stays = stays_then old mid new None l.stays e.stays;
      can_fail = tt;
      whole = λ w. refl;
      whole_memory = λ w. tt;
      nothing = λ told none. (tt, refl);
      ok = λ told.
          let first = some_matches _ _ c.in-Ok-Some.field-0 c.in-Ok-Some.first c.in-Ok-Some.field-0-is (l.ok told) in
          let t = l.stays.3 told in
          let ended : mid.left ≡ [] = (e.ok t).0 c.in-Ok-true.field-0-test in (
            took_all (length c.in-Ok-Some.first.now) c.in-Ok-Some.first.now _ _ first.1 first.0.1 ended,
            e.kept t ∙ ended,
          );
      err = λ told. tt;
    }

pub returns-in-Err : goal.returns-in-Err
returns-in-Err g c =
    let e = c.in-Err.ensures in record {
      stays = e.stays;
      can_fail = e.can_fail;
      whole = λ w. tt;
      whole_memory = λ w. e.memory;
      nothing = λ told none. (e.memory, tt);
      ok = λ told. tt;
      err = e.err;
    }

pub returns-in-Ok-None : goal.returns-in-Ok-None
returns-in-Ok-None g c =
    let e = c.in-Ok-None.ensures in record {
      stays = e.stays;
      can_fail = tt;
      whole = λ w. refl;
      whole_memory = λ w. tt;
      nothing = λ told none. (tt, refl);
      ok = λ told. let k = none_matches _ _ c.in-Ok-None.field-0 c.in-Ok-None.field-0-is (e.ok told) in (sym k.0, k.1);
      err = λ told. tt;
    }

pub returns-in-Err-is_at_end : goal.returns-in-Err-is_at_end
returns-in-Err-is_at_end g c =
    let old : Source = g.B.ParseBuf.source c.args.buf.now in
    let mid : Source = g.B.ParseBuf.source c.lend_first.new.buf in
    let new : Source = g.B.ParseBuf.source c.is_at_end.new.buf in
    let l = c.in-Ok-Some.ensures in
    let error = c.in-Err-is_at_end.error in
    let e = c.in-Err-is_at_end.ensures in record {
      stays = stays_then old mid new (Some (kind_of error)) l.stays e.stays;
      can_fail = can_fail_later old mid (Some (kind_of error)) l.stays.1 e.can_fail;
      whole = λ w. tt;
      whole_memory = λ w. e.memory;
      nothing = λ told none. (e.memory, tt);
      ok = λ told. tt;
      err = λ told.
          let first = some_matches _ _ c.in-Ok-Some.field-0 c.in-Ok-Some.first c.in-Ok-Some.field-0-is (l.ok told) in
          rest_more old mid new (length c.in-Ok-Some.first.now) (kind_of error) first.0 (e.err (l.stays.3 told));
    }
