use Rattle.std.proofs.Common.{refl, false, ap, length, ◌∙◌}
use Rattle.perf_buffers.proofs.frame_reader.read_assembled.Goals as goal

pub returns-in-Ok : goal.returns-in-Ok
returns-in-Ok g c =
    let a = c.in-Ok.ensures in record {
      stays = a.stays;
      can_fail = tt;
      beforehand = λ told all. tt;
      ok = λ parts. (
        c.as_slice.result.now,
        false,
        c.read.ensures,
        ap length c.as_slice.ensures.value ∙ a.count,
        (λ told. let k = a.ok told in (k.0, c.as_slice.ensures.value ∙ k.1)),
        (λ whole. absurd (parts whole)),
      );
      same = tt;
      err = λ told. tt;
    }

pub returns-in-Err : goal.returns-in-Err
returns-in-Err g c =
    let a = c.in-Err.ensures in record {
      stays = a.stays;
      can_fail = a.can_fail;
      beforehand = a.beforehand;
      ok = λ parts. tt;
      same = refl {a = c.args.state.now};
      err = a.err;
    }
