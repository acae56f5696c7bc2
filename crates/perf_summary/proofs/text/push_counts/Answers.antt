use Rattle.std.proofs.Common.{◌++◌, List, ℕ, length, string_bytes, ap, ◌∙◌}
use Rattle.perf_summary.specs.OwnLines.{own_event_lines, own_type_lines}
use Rattle.perf_summary.specs.SummaryText.{frames_line, other_line}
use Rattle.perf_summary.specs.declared.counts.EventCount.{EventCount}
use Rattle.perf_summary.proofs.Naming.{four_more}
use Rattle.perf_summary.proofs.text.push_counts.Goals as goal

pub returns : goal.returns
returns c =
    let counts = c.args.counts.now in
    let events = c.args.events.now in
    four_more (string_bytes c.args.text.now) (frames_line counts.frames counts.refused) (own_event_lines counts.events.items 0 events)
    (own_type_lines counts.types.items (length counts.types.items)) (other_line counts.other_types)
    (string_bytes c.push_frames.new.text) (string_bytes c.push_events.new.text) (string_bytes c.push_types.new.text) (string_bytes c.push_others.new.text)
    c.in_ok-push_frames.ensures
    (c.in_ok-push_events.ensures ∙ ap (λ (k : List EventCount). string_bytes c.push_frames.new.text ++ own_event_lines k 0 events) c.deref.ensures.value)
    (c.in_ok-push_types.ensures ∙ ap (λ (k : List ℕ). string_bytes c.push_events.new.text ++ own_type_lines k (length k)) c.deref-2.ensures.value)
    c.in_ok-push_others.ensures
