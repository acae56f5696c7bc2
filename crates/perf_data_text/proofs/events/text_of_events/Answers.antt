use Rattle.std.proofs.Common.{◌++◌, List, get_or, ap, sym, zero-add, ◌∙◌}
use Rattle.perf_sections.specs.Opened.{event_view}
use Rattle.perf_sections.specs.declared.events.Event.{Event}
use Rattle.perf_data_text.specs.OwnNames.{own_lines}
use Rattle.perf_data_text.proofs.Naming.{named_alike}
use Rattle.perf_data_text.proofs.events.text_of_events.Goals as goal

pub returns : goal.returns
returns c = λ naming named.
    let r = c.args.recording.now in
    c.in_ok-push_events.ensures
    ∙ ap (λ text. text ++ own_lines 0 c.events.result.now) c.new-text.ensures.bytes
    ∙ ap (λ (es : List Event). own_lines 0 es) c.events.ensures.are
    ∙ named_alike naming 0 r.events.items (λ n d lt. named n d lt ∙ ap (λ k. naming k (event_view (get_or r.events.items n d))) (sym (zero-add n)))
