use Rattle.std.proofs.Common.{◌≡◌, sym, ◌∙◌, ap, take}
use Rattle.perf_base.specs.Cow.{cow_items}
use Rattle.perf_base.specs.Layout.{rest}
use Rattle.perf_base.specs.Zeros.{trim_zeros}
use Rattle.perf_reader.proofs.After.{part_after, call_none}
use Rattle.perf_reader.proofs.reader.Reader.read_rest_trim_nul.Goals as goal

pub returns-in-Ok : goal.returns-in-Ok
returns-in-Ok g c =
    let n = c.trimmed_len-len.result in
    let made : trim_zeros (cow_items c.in-Ok.bytes) ≡ cow_items c.truncate.new.self =
    ap trim_zeros (sym c.as_slice.ensures) ∙ sym c.trimmed_len-len.ensures.trimmed ∙ ap (take n) c.as_slice.ensures ∙ sym c.truncate.ensures.items in
    let e = c.in-Ok.ensures in record {
      whole = λ whole. rw c.truncate.ensures.form (e.whole whole);
      whole_memory = λ whole. tt;
      nothing = λ told none. (tt, rw c.truncate.ensures.form (e.nothing told none).1);
      call = part_after rest cow_items _ e.call (rw made (call_none {show = cow_items}));
    }
