use Rattle.std.proofs.Common.{◌≡◌, ◌∙◌, List, true, ap, refl, sym}
use Rattle.perf_flame.specs.FoldedLines.{folded_lines}
use Rattle.perf_fold.specs.EventLabels.{any_counts, labels_view}
use Rattle.perf_fold.specs.declared.labels.Label.{Label}
use Rattle.perf_fold.proofs.LabelsAlike.{any_of}
use Rattle.perf_fold.proofs.Lined.{lines_of, lacks_event, failed}
use Rattle.perf_fold.proofs.run.write_fold.Goals as goal

pub returns-then-not-any_counts : goal.returns-then-not-any_counts
returns-then-not-any_counts g c =
    let r = c.in_ok-recording.recording in
    let list : List Label = c.deref.result.now in
    let own = ap (λ (ls : List Label). labels_view ls) c.deref.ensures.value ∙ c.in_ok-labels.ensures in
    let none = sym (any_of list) ∙ sym c.any_counts.ensures ∙ c.if-not-any_counts.true in
    (lacks_event c.args.how c.args.bytes.now r (labels_view list) c.in_ok-recording.ensures.exact c.in_ok-recording.ensures.named own none, refl)

pub returns-in-Ok : goal.returns-in-Ok
returns-in-Ok g c =
    let r = c.in_ok-recording.recording in
    let list : List Label = c.deref-2.result.now in
    let lines = folded_lines c.in_ok-folded.folded in
    let same = ap (λ (ls : List Label). labels_view ls) c.deref.ensures.value in
    let again = ap (λ (ls : List Label). labels_view ls) c.deref-2.ensures.value in
    let any : any_counts (labels_view list) ≡ true = ap any_counts (again ∙ sym same) ∙ sym (any_of c.deref.result.now) ∙ sym c.any_counts.ensures ∙ c.if-not-any_counts.false in (
      lines,
      lines_of c.args.how c.args.bytes.now r (labels_view list) lines c.in_ok-recording.ensures.exact c.in_ok-recording.ensures.named (again ∙ c.in_ok-labels.ensures) any c.in_ok-folded.ensures,
      c.in-Ok.ensures,
    )

pub returns : goal.returns
returns g c =
    let r = c.in_ok-recording.recording in
    let list : List Label = c.deref-2.result.now in
    let lines = folded_lines c.in_ok-folded.folded in
    let same = ap (λ (ls : List Label). labels_view ls) c.deref.ensures.value in
    let again = ap (λ (ls : List Label). labels_view ls) c.deref-2.ensures.value in
    let any : any_counts (labels_view list) ≡ true = ap any_counts (again ∙ sym same) ∙ sym (any_of c.deref.result.now) ∙ sym c.any_counts.ensures ∙ c.if-not-any_counts.false in
    failed c.args.how c.args.form c.args.bytes.now lines c.in-Err.error _ _
    (lines_of c.args.how c.args.bytes.now r (labels_view list) lines c.in_ok-recording.ensures.exact c.in_ok-recording.ensures.named (again ∙ c.in_ok-labels.ensures) any c.in_ok-folded.ensures) c.in-Err.ensures
