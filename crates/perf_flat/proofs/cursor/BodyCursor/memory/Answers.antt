use Rattle.std.proofs.Common.{subst, sym, ◌∙◌}
use Rattle.perf_flat.specs.CursorReads.{IsBodyOf}
use Rattle.perf_flat.proofs.Groups.{none_left, next_field, flag_field}
use Rattle.perf_flat.proofs.cursor.BodyCursor.memory.Goals as goal

pub returns : goal.returns
returns g c = λ settings asked.
    let o = g.E.Endian.order c.args.order.now in
    let last = c.aux.ensures settings asked in
    let one = c.flagged.ensures in
    let two = c.flagged-2.ensures in
    let three = c.flagged-3.ensures in
    let four = c.flagged-4.ensures in
    let body = four.bytes ∙ three.bytes ∙ two.bytes ∙ one.bytes in
    record {
      aux = last.value;
      fields = next_field (flag_field 19 asked one) (next_field (flag_field 21 asked two) (next_field (flag_field 22 asked three) (next_field (flag_field 23 asked four) (next_field last.reads none_left))));
      bytes = λ ok frame is. last.holds ok frame (subst (IsBodyOf frame) (sym body) is);
    }
