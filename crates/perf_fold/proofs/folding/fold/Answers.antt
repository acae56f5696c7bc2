use Rattle.std.proofs.Common.{List, subst, ◌∙◌}
use Rattle.std.proofs.lemmas.Result.{IfOk-weaker}
use Rattle.perf_file.specs.Views.{view}
use Rattle.perf_flame.specs.FoldedLines.{folded_lines}
use Rattle.perf_fold.specs.EventLabels.{EventLabel, labels_view}
use Rattle.perf_fold.specs.Folds.{IsFoldOf}
use Rattle.std.proofs.Common.{ap}
use Rattle.perf_fold.specs.declared.labels.Label.{Label}
use Rattle.perf_fold.proofs.folding.fold.Goals as goal

pub returns : goal.returns
returns c =
    let same = ap (λ (ls : List Label). labels_view ls) c.deref.ensures.value ∙ c.in_ok-labels.ensures in
    IfOk-weaker c.fold_labelled.result _ _ (λ folded is. subst (λ (ls : List EventLabel). IsFoldOf c.args.how ls (view c.args.recording.now) (folded_lines folded)) same is) c.fold_labelled.ensures
