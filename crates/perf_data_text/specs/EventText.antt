-- The lines of events.
use Rattle.std.specs.Prelude.{ℕ, List, [], ◌∷◌, ◌++◌, codes, decimal, length}
use Rattle.std.specs.List.{flat_map, enumerate_from}
use Rattle.perf_lines.specs.Fields.{field, number, with_spaces}
use Rattle.perf_lines.specs.Text.{with_line_feed}
use Rattle.perf_text.specs.Numbers.{hex}
use Rattle.perf_sections.specs.Names.{Name, name_text}
use Rattle.perf_sections.specs.Opened.{File, FileEvent}

-- a name, `=` and a number in hexadecimal
abbrev pub hex_number : List ℕ → ℕ → List ℕ
hex_number name n = field name (hex n)

-- the fields of an event: its type, its config, what its samples contain, and how many ids it has
abbrev pub event_fields : FileEvent → List (List ℕ)
event_fields e =
    number (codes "type") e.attribute.type_
    ∷ hex_number (codes "config") e.attribute.config
    ∷ hex_number (codes "sample_type") e.attribute.sample_type
    ∷ number (codes "ids") (length e.ids) ∷ []

-- the line of an event: its number, its name, and its fields
abbrev pub event_line : ℕ → List ℕ → FileEvent → List ℕ
event_line n name e = with_line_feed (decimal n ++ (codes " " ++ name) ++ with_spaces (event_fields e))

-- those of events, numbered from a first number, by the name of each
abbrev pub event_lines : (naming : ℕ → FileEvent → Name) → ℕ → List FileEvent → List ℕ
event_lines naming first events =
    flat_map (λ numbered. event_line numbered.0 (name_text (naming numbered.0 numbered.1)) numbered.1)
    (enumerate_from first events)

-- those of a file whose events have these names
abbrev pub events_text : File → (naming : ℕ → FileEvent → Name) → List ℕ
events_text f naming = event_lines naming 0 f.events
