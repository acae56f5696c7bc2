-- What a file contains.
use Rattle.std.specs.Prelude.{◌≡◌, List, ℕ, ◌/◌, map, drop, Bool, Result, Ok, All}
use Rattle.std.specs.List.{zip}
use Rattle.perf_base.specs.Dynamic.{order_of}
use Rattle.perf_base.specs.Layout.{slice, words_of}
use Rattle.perf_base.specs.Order.{Order}
use Rattle.perf_base.specs.declared.endian.Dynamic.{Dynamic}
use Rattle.perf_base.specs.declared.sys.perf_event_attr.{perf_event_attr}
use Rattle.perf_sections.specs.Sections.{ShareNothing, IsInside}
use Rattle.perf_sections.specs.Heads.{head_in, checked_features, checked_parts}
use Rattle.perf_sections.specs.IdSections.{id_sections_in, sections_of, checked_apart}
use Rattle.perf_sections.specs.Attributes.{attributes_in}
use Rattle.perf_sections.specs.IdTables.{id_table, checked_table}
use Rattle.perf_sections.specs.IdPlaces.{checked_places}
use Rattle.perf_sections.specs.Opens.{◌>>=◌}
use Rattle.perf_sections.specs.declared.section.Section.{Section}
use Rattle.perf_sections.specs.declared.head.Head.{Head}
use Rattle.perf_sections.specs.declared.events.Event.{Event}
use Rattle.perf_sections.specs.declared.ids.IdOfEvent.{IdOfEvent}
use Rattle.perf_sections.specs.declared.error.OpenError.{OpenError}

-- an event: its attribute, with its single bits counted from the lowest, and its ids
pub record FileEvent : Type 0 where
  pub attribute : perf_event_attr
  pub ids : List ℕ

-- a file: its order, whether perf closed it, the offset of its frames, their bytes, and its events
pub record File : Type 0 where
  pub order : Dynamic
  pub is_closed : Bool
  pub start : ℕ
  pub frames : List ℕ
  pub events : List FileEvent

-- an event of the code
abbrev pub event_view : Event → FileEvent
event_view e = record { attribute = e.attr; ids = e.ids.items }

-- the attributes of events
abbrev pub attributes_of : List FileEvent → List perf_event_attr
attributes_of events = map (λ (e : FileEvent). e.attribute) events

-- the table of their ids
abbrev pub table_of : List FileEvent → List IdOfEvent
table_of events = id_table 0 (map (λ (e : FileEvent). e.ids) events)

-- the event of an attribute and of the section of its ids
abbrev pub event_in : Order → List ℕ → perf_event_attr × Section → FileEvent
event_in o bytes entry = record { attribute = entry.0; ids = words_of o (entry.1.size / 8) (drop entry.1.start bytes) }

-- the head, if it is good
abbrev pub checked_head : List ℕ → Result Head OpenError
checked_head bytes = do
  head ← head_in bytes
  features ← checked_features head
  parts ← checked_parts bytes head
  Ok head

-- the events, if their parts of the file are apart
abbrev pub events_in : List ℕ → Head → Result (List FileEvent) OpenError
events_in bytes h = do
  attributes ← attributes_in bytes h
  sections ← id_sections_in bytes h
  apart ← checked_apart (sections_of h sections)
  Ok (map (event_in (order_of h.order) bytes) (zip attributes sections))

-- one of them can be found for each frame
abbrev pub checked_events : List FileEvent → Result (Unit {0}) OpenError
checked_events events = do
  place ← checked_places (attributes_of events)
  checked_table (table_of events)

-- the file of a head and its events
abbrev pub file_with : List ℕ → Head → List FileEvent → File
file_with bytes h events = record {
  order = h.order;
  is_closed = h.is_closed;
  start = h.frames.start;
  frames = slice bytes h.frames.start h.frames.size;
  events = events;
}

-- what opening a file returns that is no pipe: what it contains, or the first check that fails
unfoldable pub opened_file : List ℕ → Result File OpenError
opened_file bytes = do
  head ← checked_head bytes
  events ← events_in bytes head
  found ← checked_events events
  Ok (file_with bytes head events)

-- The parts of a file end inside it, and no byte is in two of them: the head, the attributes, the
-- data, and the ids of each event.
pub record HasParts (bytes : List ℕ) (h : Head) (ids : List Section) : Type 0 where
  pub ids_are : id_sections_in bytes h ≡ Ok ids
  pub inside : All (IsInside bytes) (sections_of h ids)
  pub apart : ShareNothing (sections_of h ids)

-- the same of the head that a file has
abbrev pub IsSound : List ℕ → Head → List Section → Type 0
IsSound bytes h ids = (head_in bytes ≡ Ok h) × HasParts bytes h ids
