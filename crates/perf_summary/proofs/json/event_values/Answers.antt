use Rattle.std.proofs.Common.{ℕ, List, [], ◌∷◌, ◌++◌, get_or, map, sym, ap, ◌∙◌, arith}
use Rattle.std.proofs.lemmas.List.{map-append}
use Rattle.serde_json.specs.View.{view}
use Rattle.perf_sections.specs.Names.{name_view, name_text}
use Rattle.perf_summary.specs.CountSteps.{no_count}
use Rattle.perf_summary.specs.SummaryJson.{event_data}
use Rattle.perf_summary.proofs.Datas.{data_more}
use Rattle.perf_summary.proofs.json.event_values.Goals as goal

pub loop-index-preserved : goal.loop-index-preserved
loop-index-preserved c =
    let i : ℕ = c.loop-index.index in
    let events = c.args.events.now in
    let counts = c.args.counts.now in
    let here = c.index-events-index.result in
    let name : List ℕ = name_text (name_view here.name) in
    ap (map view) c.in_ok-push.ensures.items
    ∙ map-append view c.loop-index.values.items (c.in_ok-event_value.field-0 ∷ [])
    ∙ ap (λ d. map view c.loop-index.values.items ++ d ∷ []) (c.in_ok-event_value.ensures ∙ ap (λ k. event_data k name) c.count_at-count.ensures)
    ∙ ap (λ ds. ds ++ event_data (get_or counts i no_count) name ∷ []) c.loop-index.invariant
    ∙ sym (data_more counts events i here (omega (arith, c.loop-index-test.true)) c.index-events-index.is)
