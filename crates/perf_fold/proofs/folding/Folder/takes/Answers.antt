use Rattle.std.proofs.Common.{◌&&◌, ℕ, sym, ap, ◌∙◌}
use Rattle.perf_file.specs.Views.{view}
use Rattle.perf_fold.specs.EventLabels.{label_at, labels_view}
use Rattle.perf_fold.proofs.folding.Folder.takes.Goals as goal

pub returns-then-counts : goal.returns-then-counts
returns-then-counts c = λ m s is past sampled same.
    let labels = labels_view c.args.self.now.labels.now in
    let counts = (label_at labels m.event).counts in
    ap (λ b. b && c.takes-taken.result) (sym c.if-counts.true ∙ c.counts_at-counts.ensures ∙ ap (λ (e : ℕ). (label_at labels e).counts) is.event)
    ∙ ap (λ b. counts && b) (c.takes-taken.ensures (view c.args.walk.now.recording.now) m s c.args.found.now is past sampled same)

pub returns-else-counts : goal.returns-else-counts
returns-else-counts c = λ m s is past sampled same.
    let labels = labels_view c.args.self.now.labels.now in
    let counts = (label_at labels m.event).counts in
    c.if-counts.false ∙ ap (λ b. b && c.takes-taken.result) (sym c.if-counts.false ∙ c.counts_at-counts.ensures ∙ ap (λ (e : ℕ). (label_at labels e).counts) is.event)
    ∙ ap (λ b. counts && b) (c.takes-taken.ensures (view c.args.walk.now.recording.now) m s c.args.found.now is past sampled same)
