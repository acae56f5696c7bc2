use Rattle.std.proofs.Common.{◌++◌, ℕ, List, get_or, take, string_bytes, sym, ap, ◌∙◌, append_assoc, arith}
use Rattle.perf_sections.specs.Names.{name_view, name_text}
use Rattle.perf_summary.specs.OwnLines.{own_event_lines}
use Rattle.perf_summary.specs.CountSteps.{no_count}
use Rattle.perf_summary.specs.SummaryText.{event_line}
use Rattle.perf_summary.proofs.Naming.{own_more}
use Rattle.perf_summary.proofs.text.push_events.Goals as goal

pub loop-index-preserved : goal.loop-index-preserved
loop-index-preserved c =
    let i : ℕ = c.loop-index.index in
    let events = c.args.events.now in
    let counts = c.args.counts.now in
    let here = c.index-events-index.result in
    let name : List ℕ = name_text (name_view here.name) in
    let old : List ℕ = string_bytes c.args.text.now in
    let this : List ℕ = event_line i (get_or counts i no_count) name in
    c.in_ok-push_event.ensures
    ∙ ap (λ k. string_bytes c.loop-index.text ++ event_line i k name) c.count_at-count.ensures
    ∙ ap (λ text. text ++ this) c.loop-index.invariant
    ∙ append_assoc old (own_event_lines counts 0 (take i events)) this
    ∙ ap (λ rest. old ++ rest) (sym (own_more counts events i here (omega (arith, c.loop-index-test.true)) c.index-events-index.is))
