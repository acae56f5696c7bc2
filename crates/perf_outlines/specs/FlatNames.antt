-- The names of a file's events, which are places in the file.
use Rattle.std.specs.Prelude.{◌≡◌, ◌<◌, ℕ, List, [], ◌∷◌, length, map, slice_index_or}
use Rattle.perf_base.specs.Order.{Order}
use Rattle.perf_file.specs.Forms.{event_name}
use Rattle.perf_sections.specs.NamePlaces.{key_at, name_or}
use Rattle.perf_sections.specs.Names.{Name, name_with}
use Rattle.perf_sections.specs.Opened.{File, FileEvent}
use Rattle.perf_sections.specs.declared.descriptions.EventKey.{EventKey}
use Rattle.perf_outlines.specs.declared.file_events.FlatEvent.{FlatEvent}

-- by what an event is found among descriptions: its type, its config, and its first id in these bytes
abbrev pub flat_key : Order → List ℕ → FlatEvent → EventKey
flat_key o bytes e = key_at o bytes e.type_ e.event e.ids_at e.ids

-- the name of an event, whose own one is at its place in these bytes
abbrev pub flat_name : List ℕ → FlatEvent → Name
flat_name bytes e = name_or bytes e.name e.type_ e.event

-- the name by these descriptions, of an event of a file with these bytes
abbrev pub described_by : Order → (descriptions bytes : List ℕ) → FlatEvent → Name
described_by o descriptions bytes e = name_with o descriptions (flat_key o bytes e)

-- an event without a name of its own
abbrev pub nameless : FlatEvent → FlatEvent
nameless e = record e { name = record { start = 0; size = 0 } }

-- each event has the place of its name by these descriptions, and the rest of it is unchanged
pub record FindsNames (o : Order) (descriptions bytes : List ℕ) (old new : List FlatEvent) : Type 0 where
  pub names : map (flat_name bytes) new ≡ map (described_by o descriptions bytes) old
  pub same : map nameless new ≡ map nameless old

-- the name of each event is that of the file's event with its number
abbrev pub AreNames : List ℕ → File → List FlatEvent → Type 0
AreNames bytes f all = (n : ℕ) (e : FlatEvent) (x : FileEvent) → n < length f.events → flat_name bytes (slice_index_or all n e) ≡ event_name bytes f n (slice_index_or f.events n x)

-- a text at the front of bytes, as far as there is room
abbrev pub over : (text bytes : List ℕ) → List ℕ
over [] bytes = bytes
over (x ∷ text) [] = []
over (x ∷ text) (y ∷ bytes) = x ∷ over text bytes
