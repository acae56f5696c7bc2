use Rattle.std.proofs.Common.{[], List, ap, ◌∙◌, arith}
use Rattle.std.specs.Borrow.{Bor}
use Rattle.std.proofs.lemmas.Result.{IfOk-weaker}
use Rattle.perf_base.specs.Dynamic.{order_of}
use Rattle.perf_file.specs.Views.{view}
use Rattle.perf_flame.specs.Tallies.{tally_lines}
use Rattle.perf_flame.specs.Lines.{Line}
use Rattle.perf_walk.specs.Moments.{moments}
use Rattle.perf_fold.specs.EventLabels.{labels_view}
use Rattle.perf_fold.specs.declared.labels.Label.{Label}
use Rattle.perf_fold.specs.Folds.{add_moments}
use Rattle.perf_fold.proofs.Moving.{moved, all_moved}
use Rattle.perf_fold.proofs.folding.fold_entries.Goals as goal

pub loop-entry-init : goal.loop-entry-init
loop-entry-init c =
    let f = view c.args.recording.now in
    let labels = labels_view c.args.labels.now in
    record {
      recording = c.new-walk.ensures.recording;
      how = c.new-folder.ensures.how;
      labels = c.new-folder.ensures.labels;
      lines = ([], c.new-walk.ensures.known, ap (λ (ls : List Line). add_moments c.args.how labels (order_of f.order) ls (moments f c.args.entries.now [])) c.new-folder.ensures.lines);
    }

pub loop-entry-preserved : goal.loop-entry-preserved
loop-entry-preserved c =
    let f = view c.args.recording.now in
    let labels = labels_view c.args.labels.now in
    let before = c.loop-entry.invariant in
    record {
      recording = c.go_on.ensures.recording ∙ before.recording;
      how = c.go_on.ensures.how ∙ before.how;
      labels = ap (λ (b : Bor (List Label)). b.now) c.go_on.ensures.labels ∙ before.labels;
      lines =
          moved c.args.how c.loop-entry.folder.how labels (labels_view c.loop-entry.folder.labels.now) f (view c.loop-entry.walk.recording.now) c.args.entries.now c.loop-entry.entry-index _
          before.lines.0 (tally_lines c.loop-entry.folder.tally) (tally_lines c.go_on.new.self.tally) c.go_on.new.walk.history before.how (ap (λ (ls : List Label). labels_view ls) before.labels) (ap view before.recording)
          (omega (arith, c.loop-entry-test.true)) before.lines.2 (c.in_ok-go_on.ensures.gone before.lines.0 before.lines.1);
    }

pub returns : goal.returns
returns c =
    let lines = c.loop-entry.invariant.lines in
    let all =
    all_moved c.args.how (labels_view c.args.labels.now) (view c.args.recording.now) c.args.entries.now c.loop-entry.entry-index lines.0 (tally_lines c.loop-entry.folder.tally)
    (omega (arith, c.loop-entry-test.false)) lines.2 in
    IfOk-weaker c.into_folded.result _ _ (λ folded same. same ∙ all) c.into_folded.ensures
