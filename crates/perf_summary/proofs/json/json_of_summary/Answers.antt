use Rattle.std.proofs.Common.{◌≡◌, ◌++◌, false, codes, length, refl, ap, subst, ◌∙◌}
use Rattle.std.proofs.lemmas.List.{length-map}
use Rattle.serde_json.specs.View as values
use Rattle.serde_json.specs.Written.{compact_text, has_float}
use Rattle.perf_sections.specs.Opened.{event_view}
use Rattle.perf_file.specs.Views.{view}
use Rattle.perf_summary.specs.Contents.{all_contents}
use Rattle.perf_summary.specs.Counts.{AreCounts}
use Rattle.perf_summary.proofs.Datas.{summary_alike}
use Rattle.perf_summary.proofs.Floats.{no_float}
use Rattle.perf_summary.proofs.json.json_of_summary.Goals as goal

pub returns-clause-text : goal.returns-clause-text
returns-clause-text c = λ naming named.
    let r = c.args.recording.now in
    let items = r.events.items in
    let xs = all_contents (view r) in
    let counts = c.in_ok-counts.counts in
    let es = c.args.threads.now.entries in
    let value = c.in_ok-value.value in
    let are : AreCounts (length items) xs counts = subst (λ n. AreCounts n xs counts) (length-map items event_view) c.in_ok-counts.ensures in
    let whole : has_float (values.view value) ≡ false = ap has_float c.in_ok-value.ensures ∙ no_float r.order r.bytes.now items counts es in
    c.in_ok-push_str.ensures.bytes
    ∙ ap (λ t. t ++ codes "\n")
    (c.in_ok-text.ensures.text whole ∙ ap compact_text (c.in_ok-value.ensures ∙ summary_alike naming (view r) r.bytes.now items xs counts es are refl named))
