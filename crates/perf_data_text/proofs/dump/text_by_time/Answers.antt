use Rattle.std.proofs.Common.{List, length, sym, ap, subst, arith}
use Rattle.std.proofs.lemmas.Result.{IfOk-weaker}
use Rattle.perf_file.specs.Views.{view}
use Rattle.perf_file.specs.declared.entries.Entry.{Entry}
use Rattle.perf_data_text.specs.DumpText.{AreByTime, pieces_at}
use Rattle.perf_data_text.proofs.ByTime.{by_time}
use Rattle.perf_data_text.proofs.dump.text_by_time.Goals as goal

pub returns : goal.returns
returns c =
    let f = view c.args.recording.now in
    let order : AreByTime f (pieces_at f c.deref.result.now) =
    subst (λ (es : List Entry). AreByTime f (pieces_at f es)) (sym c.deref.ensures.value) (by_time f c.in_ok-entries.entries.items c.in_ok-entries.ensures) in
    IfOk-weaker c.text_of_entries.result _ _ (λ made text. (pieces_at f c.deref.result.now, order, text)) c.text_of_entries.ensures

pub text_of_entries-requires : goal.text_of_entries-requires
text_of_entries-requires c = omega (arith, ap (λ (es : List Entry). length es) c.deref.ensures.value, c.in_ok-entries.entries.small)
