use Rattle.std.proofs.Common.{refl}
use Rattle.perf_reader.proofs.reader.Reader+Outer+B+E.with_frame.Goals as goal

pub returns-in-Err : goal.returns-in-Err
returns-in-Err g c =
    let e = c.in-Err.ensures in record {
      config = refl;
      stays = e.stays;
      can_fail = e.can_fail;
      whole_memory = e.whole_memory;
      nothing = λ none. let n = e.nothing none in (n.0, n.1, tt);
      short = e.short;
      beforehand = e.beforehand;
      ok = tt;
      same = e.same;
      err = (refl, e.err);
    }
