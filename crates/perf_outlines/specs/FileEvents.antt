-- The events of a `perf.data` file as plain numbers.
use Rattle.std.specs.Prelude.{◌≡◌, ℕ, ◌+◌, ◌*◌, ◌≤◌, ◌/◌, ◌==◌, ◌&&◌, Bool, true, nat_lt, List, [], ◌∷◌, length, map, drop, Option, None, Result, Ok, Err, if◌then◌else◌}
use Rattle.std.specs.List.{zip, All}
use Rattle.std.specs.List.Sorted.{IsPermutation}
use Rattle.perf_base.specs.Dynamic.{order_of}
use Rattle.perf_base.specs.Layout.{words_of}
use Rattle.perf_base.specs.Order.{Order}
use Rattle.perf_base.specs.declared.endian.Dynamic.{Dynamic}
use Rattle.perf_base.specs.declared.sys.perf_event_attr.{perf_event_attr}
use Rattle.perf_sections.specs.Attributes.{attributes_in}
use Rattle.perf_file.specs.Finders.{IsTableOf}
use Rattle.perf_sections.specs.IdPlaces.{id_place, is_same_place}
use Rattle.perf_sections.specs.Opened.{File, FileEvent, table_of}
use Rattle.perf_sections.specs.Opens.{◌>>=◌}
use Rattle.perf_outlines.specs.PipeOutlines.{from_notes}
use Rattle.perf_file.specs.Pipes.{FrameNote, noted_attribute}
use Rattle.perf_sections.specs.declared.error.OpenError.{OpenError}
use Rattle.perf_sections.specs.declared.error.OpenError.TheVariants as errors
use Rattle.perf_sections.specs.declared.head.Head.{Head}
use Rattle.perf_sections.specs.declared.id_place.IdPlace.{IdPlace}
use Rattle.perf_sections.specs.declared.ids.IdOfEvent.{IdOfEvent}
use Rattle.perf_sections.specs.declared.section.Section.{Section}
use Rattle.perf_outlines.specs.declared.summary.Outline.{Outline}
use Rattle.perf_flat.specs.FlatConfigs.{flat_config_of, is_valid}
use Rattle.perf_flat.specs.declared.config.FlatConfig.{FlatConfig}
use Rattle.perf_outlines.specs.CallerConfigs.{configuration_by}
use Rattle.perf_outlines.specs.Files.{open_code}
use Rattle.perf_outlines.specs.declared.file_events.FlatEvent.{FlatEvent}

-- the event of an attribute and of the section of its ids
abbrev pub flat_event : Dynamic → perf_event_attr × Section → FlatEvent
flat_event o e = record {
  config = flat_config_of e.0 o;
  type_ = e.0.type_;
  event = e.0.config;
  ids_at = e.1.start;
  ids = e.1.size / 8;
  name = record { start = 0; size = 0 };
}

-- those of a file, of which the ids are in these sections
abbrev pub flat_events : List ℕ → Head → List Section → Result (List FlatEvent) OpenError
flat_events bytes h sections = attributes_in bytes h >>= λ attributes. Ok (map (flat_event h.order) (zip attributes sections))

-- those of a pipe with these frames, of which the ids of events are in these sections
abbrev pub note_events : Dynamic → List FrameNote → List Section → Result (List FlatEvent) OpenError
note_events order all sections = from_notes (noted_attribute order) 0 all (λ attributes. Ok (map (flat_event order) (zip attributes sections)))

-- where the frames of an event have its id, if its configuration is of this version
abbrev pub place_by : FlatEvent → Option IdPlace
place_by e = if is_valid e.config then id_place (configuration_by e.config) else None

-- the place of the first event
abbrev pub first_place : List FlatEvent → Option IdPlace
first_place [] = None
first_place (e ∷ others) = place_by e

-- whether all events have that place
abbrev pub all_at : Option IdPlace → List FlatEvent → Bool
all_at place [] = true
all_at place (e ∷ others) = is_same_place place (place_by e) && all_at place others

-- several events need one place
abbrev pub checked_places : List FlatEvent → Result (Unit {0}) OpenError
checked_places events =
    if nat_lt (length events) 2 then Ok tt
    else (if all_at (first_place events) events then Ok tt
    else Err errors.NoIdPlace)

-- how the frames of an event are read, its type, what of that type it counts, and its ids
pub record EventNumbers : Type 0 where
  pub config : FlatConfig
  pub type_ : ℕ
  pub event : ℕ
  pub ids : List ℕ

-- what a flat event states, whose ids are in these bytes
abbrev pub stated : Order → List ℕ → FlatEvent → EventNumbers
stated o bytes e = record { config = e.config; type_ = e.type_; event = e.event; ids = words_of o e.ids (drop e.ids_at bytes) }

-- the same of an event of a file in that order
abbrev pub event_numbers : Dynamic → FileEvent → EventNumbers
event_numbers o e = record { config = flat_config_of e.attribute o; type_ = e.attribute.type_; event = e.attribute.config; ids = e.ids }

-- flat events state the events of a file, and a table has their ids by rising numbers
pub record AreRead (bytes : List ℕ) (f : File) (events : List FlatEvent) (ids : List IdOfEvent) : Type 0 where
  pub all : map (stated (order_of f.order) bytes) events ≡ map (event_numbers f.order) f.events
  pub same : IsPermutation (table_of f.events) ids
  pub table : IsTableOf f ids

-- the ids of all events end inside the file
abbrev pub HaveIds : List ℕ → List FlatEvent → Type 0
HaveIds bytes events = All (λ (e : FlatEvent). e.ids_at + 8 * e.ids ≤ length bytes) events

-- the events of the file are read, or its refusal is returned
abbrev pub ReadsFile : List ℕ → Result File OpenError → Result (Unit {0}) OpenError → List FlatEvent → List IdOfEvent → Type 0
ReadsFile bytes file (Ok done) events ids = (f : File) × (file ≡ Ok f) × AreRead bytes f events ids
ReadsFile bytes file (Err e) events ids = file ≡ Err e

-- the same with the refusal as a number
abbrev pub ReadsEvents : List ℕ → Result File OpenError → ℕ → List FlatEvent → List IdOfEvent → Type 0
ReadsEvents bytes (Ok f) result events ids = (result ≡ 0) × AreRead bytes f events ids
ReadsEvents bytes (Err e) result events ids = result ≡ open_code e

-- whether there are so many events and ids, and three parts more than events
abbrev pub has_room : Outline → (events parts ids : ℕ) → Bool
has_room o events parts ids = (events == o.events) && (parts == events + 3) && (ids == o.ids)
