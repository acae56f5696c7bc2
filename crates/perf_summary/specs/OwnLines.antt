-- The lines of counts, of which some are appended at a time. Private contracts use this form.
use Rattle.std.specs.Prelude.{ℕ, List, ◌++◌, length, slice_index_or}
use Rattle.std.specs.List.{flat_map, enumerate_from}
use Rattle.perf_sections.specs.Names.{name_view, name_text}
use Rattle.perf_sections.specs.declared.events.Event.{Event}
use Rattle.perf_summary.specs.SummaryText.{frames_line, event_line, type_lines, other_line}
use Rattle.perf_summary.specs.CountSteps.{no_count}
use Rattle.perf_summary.specs.declared.counts.Counts.{Counts}
use Rattle.perf_summary.specs.declared.counts.EventCount.{EventCount}

-- the lines of events with these counts, numbered from a first number
abbrev pub own_event_lines : List EventCount → ℕ → List Event → List ℕ
own_event_lines counts first events =
    flat_map (λ numbered. event_line numbered.0 (slice_index_or counts numbered.0 no_count) (name_text (name_view numbered.1.name))) (enumerate_from first events)

-- those of the types below a number
abbrev pub own_type_lines : List ℕ → ℕ → List ℕ
own_type_lines counts n = type_lines (λ ty. slice_index_or counts ty 0) n

-- all lines
abbrev pub own_text : List Event → Counts → List ℕ
own_text events c =
    frames_line c.frames c.refused ++ own_event_lines c.events.items 0 events
    ++ own_type_lines c.types.items (length c.types.items) ++ other_line c.other_types
