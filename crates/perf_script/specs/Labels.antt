-- How events are labelled.
use Rattle.std.specs.Prelude.{◌≡◌, ◌<◌, ℕ, Bool, true, List, [], ◌∷◌, ◌++◌, codes, get_or, length, map, max, slice_index_or}
use Rattle.std.specs.List.{enumerate_from, list_any}
use Rattle.perf_sections.specs.Names.{Name, name_view, name_text}
use Rattle.perf_sections.specs.Opened.{FileEvent, event_view}
use Rattle.perf_sections.specs.declared.events.Event.{Event}
use Rattle.perf_file.specs.declared.opening.Recording.{Recording}
use Rattle.perf_walk.specs.Filters.{takes_event}
use Rattle.perf_walk.specs.declared.filtering.Filter.{Filter}
use Rattle.perf_columns.specs.Columns.{right}
use Rattle.perf_script.specs.declared.labels.Label.{Label}

-- how an event is labelled, the period of its samples that contain none, which fields they have, and
-- whether they count
pub record EventLabel : Type 0 where
  pub text : List ℕ
  pub period : ℕ
  pub fields : ℕ
  pub counts : Bool

-- a label of the code
abbrev pub label_view : Label → EventLabel
label_view l = record { text = l.text.items; period = l.period; fields = l.fields; counts = l.counts }

-- a label with a period
abbrev pub with_period : EventLabel → (period : ℕ) → EventLabel
with_period l period = record { text = l.text; period = period; fields = l.fields; counts = l.counts }

-- the length of the longest of some names
abbrev pub widest : List (List ℕ) → ℕ
widest [] = 0
widest (name ∷ names) = max (length name) (widest names)

-- a name in a column of a width, a colon and a space
abbrev pub label : (width : ℕ) → List ℕ → List ℕ
label width name = right width name ++ codes ": "

-- how an event with this name is labelled, with names in a column of a width
abbrev pub label_with : Filter → (width : ℕ) → List ℕ → FileEvent → EventLabel
label_with w width name e = record {
  text = label width name;
  period = e.attribute.sample_period;
  fields = e.attribute.sample_type;
  counts = takes_event w name;
}

-- the label of the event with a number, which is empty without one
abbrev pub label_at : List EventLabel → ℕ → EventLabel
label_at labels n = get_or labels n (record { text = []; period = 0; fields = 0; counts = true })

-- whether samples of one of the events count
abbrev pub any_counts : List EventLabel → Bool
any_counts labels = list_any (λ (l : EventLabel). l.counts) labels

-- ---- by a naming

-- the name of an event with a number
abbrev pub named : (naming : ℕ → FileEvent → Name) → ℕ × FileEvent → List ℕ
named naming numbered = name_text (naming numbered.0 numbered.1)

-- the names of events
abbrev pub names_by : (naming : ℕ → FileEvent → Name) → List FileEvent → List (List ℕ)
names_by naming events = map (named naming) (enumerate_from 0 events)

-- the labels of the events of a file
abbrev pub labels_by : Filter → (naming : ℕ → FileEvent → Name) → List FileEvent → List EventLabel
labels_by w naming events =
    map (λ (numbered : ℕ × FileEvent). label_with w (widest (names_by naming events)) (named naming numbered) numbered.1) (enumerate_from 0 events)

-- ---- by the names that were found

-- the name of an event
abbrev pub own_name : Event → List ℕ
own_name e = name_text (name_view e.name)

-- its label, with names in a column of a width
abbrev pub own_label : Filter → (width : ℕ) → Event → EventLabel
own_label w width e = label_with w width (own_name e) (event_view e)

-- those of events
abbrev pub own_labels : Filter → List Event → List EventLabel
own_labels w events = map (own_label w (widest (map own_name events))) events

-- each event has its name by a naming
abbrev pub AreNamedBy : Recording → (naming : ℕ → FileEvent → Name) → Type 0
AreNamedBy r naming = (n : ℕ) (d : Event) → n < length r.events.items → name_view (slice_index_or r.events.items n d).name ≡ naming n (event_view (slice_index_or r.events.items n d))
