use Rattle.std.proofs.Common.{List, ℕ, string_bytes, ap, subst, ◌∙◌}
use Rattle.perf_file.specs.Forms.{event_name}
use Rattle.perf_file.specs.Views.{view}
use Rattle.perf_data_text.specs.Shown.{Writes}
use Rattle.perf_summary.specs.Shown.{text_in}
use Rattle.perf_summary.specs.SummaryText.{is_any_refused}
use Rattle.perf_summary.proofs.run.run.Goals as goal

pub returns : goal.returns
returns g c =
    let r = c.in_ok-recording.recording in
    let f = view r in
    let bytes : List ℕ = c.args.bytes.now in
    let naming = event_name bytes f in
    let old = g.W.Write.contents c.args.writer.now in
    let new = g.W.Write.contents c.write_text.new.writer in
    let how = c.write_text.result in
    let made = c.in_ok-text.ensures.text naming c.in_ok-recording.ensures.named in
    let text = made.2 ∙ ap (λ b. text_in c.args.form f b naming made.0) c.in_ok-recording.ensures.bytes in
    let refused = c.in_ok-text.ensures.refused ∙ ap (λ b. is_any_refused f b) c.in_ok-recording.ensures.bytes in
    let written = subst (λ t. Writes how (is_any_refused f bytes) t old new) text (subst (λ b. Writes how b (string_bytes c.in_ok-text.text) old new) refused c.write_text.ensures) in
    (f, c.in_ok-recording.ensures.exact, (made.0, made.1, written))
