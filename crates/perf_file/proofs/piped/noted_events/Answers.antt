use Rattle.std.proofs.Common.{List, length, map, ap, sym, ◌∙◌}
use Rattle.perf_base.specs.declared.sys.perf_event_attr.{perf_event_attr}
use Rattle.perf_file.specs.NoteViews.{note_of}
use Rattle.perf_file.specs.Pipes.{noted_attribute, noted_ids}
use Rattle.perf_sections.specs.declared.section.Section.{Section}
use Rattle.perf_file.proofs.EachNote.{same_length}
use Rattle.perf_file.proofs.piped.noted_events.Goals as goal

pub events_with-requires-clause-same : goal.events_with-requires-clause-same
events_with-requires-clause-same c =
    ap (λ (xs : List perf_event_attr). length xs) c.deref.ensures.value
    ∙ same_length (noted_attribute c.args.order) (noted_ids c.args.order c.args.bytes.now) 0 (map note_of c.args.entries.now) c.in_ok-attributes.attributes.items c.in_ok-sections.sections.items c.in_ok-attributes.ensures c.in_ok-sections.ensures.exact
    ∙ sym (ap (λ (xs : List Section). length xs) c.deref-2.ensures.value)
