use Rattle.std.proofs.Common.{List, sym, subst}
use Rattle.std.proofs.lemmas.Result.{IfOk-weaker}
use Rattle.perf_file.specs.Entries.{IsInOrder, entries_of}
use Rattle.perf_file.specs.Views.{view}
use Rattle.perf_file.specs.declared.entries.Entry.{Entry}
use Rattle.perf_fold.proofs.folding.fold_labelled.Goals as goal

pub returns : goal.returns
returns c =
    let order = subst (λ (es : List Entry). IsInOrder (entries_of (view c.args.recording.now)) es) (sym c.deref.ensures.value) c.in_ok-entries.ensures in
    IfOk-weaker c.fold_entries.result _ _ (λ folded lines. (c.deref.result.now, order, lines)) c.fold_entries.ensures
