-- The events of an open file, as their samples need them.
use Rattle.std.specs.Prelude.{ℕ, Bool, true, List, [], get_or, map, string_bytes}
use Rattle.std.specs.List.{enumerate_from, list_any}
use Rattle.perf_sections.specs.Names.{Name, name_view, name_text}
use Rattle.perf_sections.specs.Opened.{FileEvent, event_view}
use Rattle.perf_sections.specs.declared.events.Event.{Event}
use Rattle.perf_walk.specs.Filters.{takes_event}
use Rattle.perf_walk.specs.declared.filtering.Filter.{Filter}
use Rattle.perf_fold.specs.declared.labels.Label.{Label}

-- the name of an event, the period of its samples that contain none, and whether they count
pub record EventLabel : Type 0 where
  pub name : List ℕ
  pub period : ℕ
  pub counts : Bool

-- that of the code
abbrev pub label_view : Label → EventLabel
label_view l = record { name = string_bytes l.name; period = l.period; counts = l.counts }

-- those of the code
abbrev pub labels_view : List Label → List EventLabel
labels_view labels = map label_view labels

-- the label of an event with this name
abbrev pub label_with : Filter → (name : List ℕ) → FileEvent → EventLabel
label_with w name e = record { name = name; period = e.attribute.sample_period; counts = takes_event w name }

-- the label of the event with a number, which is without a name if there is none
abbrev pub label_at : List EventLabel → ℕ → EventLabel
label_at labels n = get_or labels n (record { name = []; period = 0; counts = true })

-- whether samples of one of the events count
abbrev pub any_counts : List EventLabel → Bool
any_counts labels = list_any (λ (l : EventLabel). l.counts) labels

-- the label of an event
abbrev pub own_label : Filter → Event → EventLabel
own_label w e = label_with w (name_text (name_view e.name)) (event_view e)

-- those of events
abbrev pub own_labels : Filter → List Event → List EventLabel
own_labels w events = map (own_label w) events

-- the label of a numbered event by a naming
abbrev pub numbered_label : Filter → (naming : ℕ → FileEvent → Name) → ℕ × FileEvent → EventLabel
numbered_label w naming numbered = label_with w (name_text (naming numbered.0 numbered.1)) numbered.1

-- the labels of the events of a file, numbered from a first number, by a naming
abbrev pub labels_by : Filter → (naming : ℕ → FileEvent → Name) → (first : ℕ) → List FileEvent → List EventLabel
labels_by w naming first events = map (numbered_label w naming) (enumerate_from first events)
