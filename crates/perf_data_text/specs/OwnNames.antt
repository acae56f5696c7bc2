-- The events of an open file, each with the name that was found.
use Rattle.std.specs.Prelude.{◌≡◌, ◌<◌, ℕ, List, length, slice_index_or}
use Rattle.std.specs.List.{flat_map, enumerate_from}
use Rattle.perf_sections.specs.Names.{Name, name_view, name_text}
use Rattle.perf_sections.specs.Opened.{FileEvent, event_view}
use Rattle.perf_sections.specs.declared.events.Event.{Event}
use Rattle.perf_file.specs.declared.opening.Recording.{Recording}
use Rattle.perf_data_text.specs.EventText.{event_line}

-- the name of an event
abbrev pub own_name : Event → List ℕ
own_name e = name_text (name_view e.name)

-- its line, with a number
abbrev pub own_line : ℕ → Event → List ℕ
own_line n e = event_line n (own_name e) (event_view e)

-- those of events, numbered from a first number
abbrev pub own_lines : ℕ → List Event → List ℕ
own_lines first events = flat_map (λ numbered. own_line numbered.0 numbered.1) (enumerate_from first events)

-- each event has its name by a naming
abbrev pub AreNamedBy : Recording → (naming : ℕ → FileEvent → Name) → Type 0
AreNamedBy r naming = (n : ℕ) (d : Event) → n < length r.events.items → name_view (slice_index_or r.events.items n d).name ≡ naming n (event_view (slice_index_or r.events.items n d))
