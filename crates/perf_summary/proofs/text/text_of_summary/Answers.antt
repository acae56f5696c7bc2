use Rattle.std.proofs.Common.{◌++◌, List, ℕ, length, ap, subst, ◌∙◌}
use Rattle.std.proofs.lemmas.List.{length-map}
use Rattle.perf_sections.specs.Opened.{event_view}
use Rattle.perf_file.specs.Views.{view}
use Rattle.perf_sections.specs.declared.events.Event.{Event}
use Rattle.perf_summary.specs.Contents.{all_contents}
use Rattle.perf_summary.specs.Counts.{AreCounts}
use Rattle.perf_summary.specs.OwnLines.{own_text}
use Rattle.perf_summary.specs.SummaryText.{counts_text, machine_text}
use Rattle.perf_summary.specs.ThreadText.{threads_text}
use Rattle.perf_summary.proofs.Naming.{text_alike}
use Rattle.perf_summary.proofs.PlainThreads.{text_plain}
use Rattle.perf_summary.proofs.text.text_of_summary.Goals as goal

pub returns-clause-text : goal.returns-clause-text
returns-clause-text c = λ naming named.
    let r = c.args.recording.now in
    let items = r.events.items in
    let xs = all_contents (view r) in
    let counts = c.in_ok-counts.counts in
    let machine : List ℕ = machine_text r.order r.bytes.now in
    let es = c.args.threads.now.entries in
    let are : AreCounts (length items) xs counts = subst (λ n. AreCounts n xs counts) (length-map items event_view) c.in_ok-counts.ensures in
    c.in_ok-push_threads.ensures
    ∙ ap (λ t. t ++ threads_text es)
    (c.in_ok-push_counts.ensures
    ∙ ap (λ t. t ++ own_text c.events.result.now counts) (c.in_ok-is_refused.ensures.text ∙ ap (λ t. t ++ machine) c.new-text.ensures.bytes)
    ∙ ap (λ t. machine ++ t) (ap (λ (es : List Event). own_text es counts) c.events.ensures.are ∙ text_alike naming items xs counts are named))
    ∙ ap (λ t. (machine ++ counts_text naming (view r).events xs) ++ t) (text_plain es)
