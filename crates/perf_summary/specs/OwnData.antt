-- The JSON of counts, of which some is appended at a time. Private contracts use this form.
use Rattle.std.specs.Prelude.{ℕ, List, ◌++◌, length, map, slice_index_or}
use Rattle.std.specs.List.{enumerate_from}
use Rattle.serde_json.specs.Data.{Data}
use Rattle.perf_base.specs.declared.endian.Dynamic.{Dynamic}
use Rattle.perf_file.specs.FeatureTexts.{text_of, command_line_of}
use Rattle.perf_sections.specs.Names.{name_view, name_text}
use Rattle.perf_sections.specs.declared.events.Event.{Event}
use Rattle.perf_summary.specs.CountSteps.{no_count}
use Rattle.perf_summary.specs.ThreadText.{threads_data}
use Rattle.perf_summary.specs.SummaryJson.{event_data, types_data, other_data, parts_data, feature_data, words_data, printed_data}
use Rattle.perf_summary.specs.declared.threads.Thread.{Thread}
use Rattle.perf_summary.specs.declared.counts.Counts.{Counts}
use Rattle.perf_summary.specs.declared.counts.EventCount.{EventCount}

-- events with these counts, numbered from a first number
abbrev pub own_events_data : List EventCount → ℕ → List Event → List Data
own_events_data counts first events =
    map (λ numbered. event_data (slice_index_or counts numbered.0 no_count) (name_text (name_view numbered.1.name))) (enumerate_from first events)

-- the types below a number
abbrev pub own_types_data : List ℕ → ℕ → List Data
own_types_data counts n = types_data (λ ty. slice_index_or counts ty 0) n

-- all
abbrev pub own_data : Dynamic → (bytes : List ℕ) → List Event → Counts → List ((ℕ × ℕ) × Thread) → Data
own_data order bytes events c threads =
    parts_data (feature_data words_data (command_line_of order bytes))
    (own_events_data c.events.items 0 events)
    c.frames
    (feature_data printed_data (text_of order bytes 3))
    (feature_data printed_data (text_of order bytes 4))
    c.refused
    (threads_data threads)
    (own_types_data c.types.items (length c.types.items) ++ other_data c.other_types)
