use Rattle.std.proofs.Common.{◌∙◌, sym}
use Rattle.std.proofs.lemmas.Result.{on_ok_weaker}
use Rattle.perf_flame.specs.Tallies.{tally_lines}
use Rattle.perf_fold.specs.EventLabels.{labels_view}
use Rattle.perf_fold.proofs.Adding.{taken, untaken}
use Rattle.perf_fold.proofs.folding.Folder.add_if_taken.Goals as goal

pub returns-then-takes-clause-added : goal.returns-then-takes-clause-added
returns-then-takes-clause-added c = λ m s is past sampled same.
    let own = c.args.self.now in
    let counts = sym (c.takes.ensures m s is past sampled same) ∙ c.if-takes.true in
    on_ok_weaker c.add_sample.result
    (λ e. e ∙ taken own.how (labels_view own.labels.now) m c.args.walk.now.frame.misc (tally_lines own.tally) s c.args.sample.now same counts)
    (c.add_sample.ensures.added m s is past sampled same)

pub returns-else-takes-clause-added : goal.returns-else-takes-clause-added
returns-else-takes-clause-added c = λ m s is past sampled same.
    let own = c.args.self.now in
    untaken own.how (labels_view own.labels.now) m c.args.walk.now.frame.misc (tally_lines own.tally) s (sym (c.takes.ensures m s is past sampled same) ∙ c.if-takes.false)
