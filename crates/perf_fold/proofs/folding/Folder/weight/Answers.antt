use Rattle.std.proofs.Common.{◌∙◌, ℕ, ap}
use Rattle.perf_base.specs.Dynamic.{order_of}
use Rattle.perf_file.specs.Views.{view}
use Rattle.perf_flat.specs.declared.frame.FlatFrame.{FlatFrame}
use Rattle.perf_walk.proofs.Fields.{fields_of}
use Rattle.perf_fold.specs.EventLabels.{label_at, labels_view}
use Rattle.perf_fold.specs.Folds.{weight_of}
use Rattle.perf_fold.proofs.folding.Folder.weight.Goals as goal

pub returns : goal.returns
returns c = λ m s is sampled.
    let own = c.args.self.now in
    let flat = c.args.walk.now.frame in
    let sample = c.args.sample.now in
    let o = order_of (view c.args.walk.now.recording.now).order in
    let period : ℕ = c.period_at-period.result in
    let same = c.period_at-period.ensures ∙ ap (λ (n : ℕ). (label_at (labels_view own.labels.now) n).period) is.event in
    let present = ap (λ (x : FlatFrame). x.present) c.frame.ensures ∙ fields_of m.config o m.frame s flat is.states sampled in
    c.weight_of.ensures
    ∙ ap (λ (n : ℕ). weight_of own.how.weight n c.frame.result.now.present sample) same
    ∙ ap (λ (n : ℕ). weight_of own.how.weight (label_at (labels_view own.labels.now) m.event).period n sample) present
