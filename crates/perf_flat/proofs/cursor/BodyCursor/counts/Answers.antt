use Rattle.std.proofs.Common.{subst, sym}
use Rattle.perf_flat.specs.CursorReads.{IsBodyOf}
use Rattle.perf_flat.proofs.Groups.{none_left, next_field}
use Rattle.perf_flat.proofs.CursorRuns.{still_fresh}
use Rattle.perf_flat.proofs.cursor.BodyCursor.counts.Goals as goal

pub returns : goal.returns
returns g c = λ settings asked format.
    let one = c.counters.ensures settings asked format in
    let two = c.call_chain.ensures settings asked in
    record {
      values = one.value;
      call_chain = two.value;
      fields = next_field one.reads (next_field two.reads none_left);
      counters = λ ok. one.holds (still_fresh two.reads ok);
      addresses = λ ok frame is. two.holds ok frame (subst (IsBodyOf frame) (sym one.reads.bytes) is);
    }
