-- The pipe form, which `perf record -o -` writes: a head of 16 bytes, and then frames. Some of them
-- state what a file states in its parts.
use Rattle.std.specs.Prelude.{ℕ, ◌+◌, ◌==◌, ◌&&◌, ◌||◌, Bool, true, false, List, [], ◌∷◌, length, map, drop, nat_lt, Option, Some, None, Result, Ok, Err, if◌then◌else◌}
use Rattle.std.specs.List.{filter, list_any, zip}
use Rattle.perf_base.specs.Dynamic.{order_of}
use Rattle.perf_base.specs.Order.{Order}
use Rattle.perf_base.specs.declared.endian.Dynamic.{Dynamic}
use Rattle.perf_base.specs.declared.endian.Dynamic.TheVariants.{Little}
use Rattle.perf_base.specs.declared.sys.perf_event_attr.{perf_event_attr}
use Rattle.perf_base.specs.declared.sys.perf_event_header.{perf_event_header}
use Rattle.perf_records.specs.Sights.{Sight, whole, bad}
use Rattle.perf_sections.specs.Attributes.{attribute_in, of_event}
use Rattle.perf_sections.specs.Descriptions.{before_zero}
use Rattle.perf_sections.specs.Features.{or_nothing}
use Rattle.perf_sections.specs.Heads.{order_by}
use Rattle.perf_sections.specs.IdSections.{checked_ids}
use Rattle.perf_sections.specs.IdTables.{event_of, is_event}
use Rattle.perf_sections.specs.Names.{Name, described, name_of}
use Rattle.perf_sections.specs.Numbers.{number, small_number}
use Rattle.perf_sections.specs.Opened.{File, FileEvent, event_in, checked_events}
use Rattle.perf_sections.specs.Opens.{◌>>=◌}
use Rattle.perf_file.specs.Pieces.{Piece, header_seen, pieces_of, take_most, drop_most}
use Rattle.perf_sections.specs.declared.error.OpenError.{OpenError}
use Rattle.perf_sections.specs.declared.error.OpenError.TheVariants as errors
use Rattle.perf_sections.specs.declared.ids.IdOfEvent.{IdOfEvent}
use Rattle.perf_sections.specs.declared.section.Section.{Section}

-- ---- the head

-- the order, if the head states the size 16
abbrev pub if_pipe : List ℕ → Result Dynamic OpenError → Option Dynamic
if_pipe bytes (Ok order) = if number (order_of order) bytes 8 == 16 then Some order else None
if_pipe bytes (Err e) = None

-- the order of a pipe, which begins as a file does
abbrev pub pipe_order : List ℕ → Option Dynamic
pipe_order bytes =
    if nat_lt (length bytes) 16 then None
    else if_pipe bytes (order_by (number (order_of Little) bytes 0))

-- the file that a pipe is: its frames are all bytes after the head
abbrev pub pipe_with : Dynamic → (frames : List ℕ) → List FileEvent → File
pipe_with order frames events = record { order = order; is_closed = true; start = 16; frames = frames; events = events }

-- ---- notes

-- A note: a frame by which perf states something, its offset in the file, its header and the bytes
-- after it. A header that no whole frame follows has none.
pub record FrameNote : Type 0 where
  pub at : ℕ
  pub header : perf_event_header
  pub body : List ℕ

abbrev pub body_seen : Sight → List ℕ
body_seen (whole h bytes borrowed) = bytes
body_seen (bad h e) = []

abbrev pub note_in : Piece → FrameNote
note_in p = record { at = p.at; header = header_seen p.frame; body = body_seen p.frame }

-- whether it is of a type
abbrev pub is_of : (type : ℕ) → FrameNote → Bool
is_of type n = n.header.type_ == type

-- an attribute, a build id, what is new of an event, a feature
abbrev pub is_note : FrameNote → Bool
is_note n = is_of 64 n || (is_of 67 n || (is_of 78 n || is_of 80 n))

-- frames that are compressed
abbrev pub is_compressed : FrameNote → Bool
is_compressed n = is_of 81 n || is_of 83 n

-- each frame of a pipe
abbrev pub all_frames : Dynamic → (frames : List ℕ) → List FrameNote
all_frames order frames = map note_in (pieces_of (pipe_with order frames []))

-- the notes, if no frames are compressed
abbrev pub checked_notes : List FrameNote → Result (List FrameNote) OpenError
checked_notes all = if list_any is_compressed all then Err errors.Compressed else Ok (filter is_note all)

-- ---- features

-- the newer of two, if there is one
abbrev pub newer : {A : Type 0} → Option A → Option A → Option A
newer (Some a) older = Some a
newer None older = older

-- whether a note is the feature with a number, which its first eight bytes state
abbrev pub has_number : Order → (feature : ℕ) → FrameNote → Bool
has_number o feature n =
    if nat_lt (length n.body) 8 then false
    else is_of 80 n && number o n.body 0 == feature

-- its bytes then
abbrev pub own_feature : Order → (feature : ℕ) → FrameNote → Option (List ℕ)
own_feature o feature n = if has_number o feature n then Some (drop 8 n.body) else None

-- the bytes of a feature: those of its last note
abbrev pub noted_feature : Order → (feature : ℕ) → List FrameNote → Option (List ℕ)
noted_feature o feature [] = None
noted_feature o feature (n ∷ ns) = newer (noted_feature o feature ns) (own_feature o feature n)

-- ---- events

-- how many bytes an attribute takes, as its second number states
abbrev pub attribute_size : Order → List ℕ → ℕ
attribute_size o body = if nat_lt (length body) 8 then 0 else small_number o body 4

-- its bytes, and those of the ids after it
abbrev pub attribute_bytes : Order → FrameNote → List ℕ
attribute_bytes o n = take_most (attribute_size o n.body) n.body

abbrev pub id_bytes : Order → FrameNote → List ℕ
id_bytes o n = drop_most (attribute_size o n.body) n.body

-- the attribute in the note of the event with that number
abbrev pub noted_attribute : Dynamic → (index : ℕ) → FrameNote → Result perf_event_attr OpenError
noted_attribute order index n = of_event index (attribute_in order (attribute_bytes (order_of order) n))

-- where the ids of that event are
abbrev pub noted_ids : Dynamic → List ℕ → (index : ℕ) → FrameNote → Result Section OpenError
noted_ids order bytes index n = checked_ids bytes index (record {
  start = n.at + 8 + length (attribute_bytes (order_of order) n);
  size = length (id_bytes (order_of order) n);
})

-- what is found in each of some notes, which are numbered, or the first refusal
unfoldable pub each_of : {A : Type 0} → (ℕ → FrameNote → Result A OpenError) → ℕ → List FrameNote → Result (List A) OpenError
each_of item index [] = Ok []
each_of item index (n ∷ ns) = do
  x ← item index n
  others ← each_of item (index + 1) ns
  Ok (x ∷ others)

-- refuses no event
abbrev pub checked_count : List FrameNote → Result (Unit {0}) OpenError
checked_count [] = Err errors.NoAttributes
checked_count (n ∷ ns) = Ok tt

-- the events of these notes of attributes
abbrev pub noted_events : Dynamic → List ℕ → List FrameNote → Result (List FileEvent) OpenError
noted_events order bytes entries = do
  some ← checked_count entries
  attributes ← each_of (noted_attribute order) 0 entries
  sections ← each_of (noted_ids order bytes) 0 entries
  Ok (map (event_in (order_of order) bytes) (zip attributes sections))

-- those of all notes, if one of them can be found for each frame
abbrev pub found_events : Dynamic → List ℕ → List FrameNote → Result (List FileEvent) OpenError
found_events order bytes notes = do
  events ← noted_events order bytes (filter (is_of 64) notes)
  found ← checked_events events
  Ok events

-- what a pipe contains, or the first check that fails
unfoldable pub opened_pipe : Dynamic → List ℕ → Result File OpenError
opened_pipe order bytes = do
  notes ← checked_notes (all_frames order (drop 16 bytes))
  events ← found_events order bytes notes
  Ok (pipe_with order (drop 16 bytes) events)

-- ---- names

-- a name that is new: the bytes before the first zero after a kind and an id, which are numbers
abbrev pub new_name : FrameNote → List ℕ
new_name n = before_zero (drop 16 n.body)

-- whether a note has one, which is its kind 2, and at least one byte
abbrev pub has_name : Order → FrameNote → Bool
has_name o n =
    if nat_lt (length n.body) 16 then false
    else is_of 78 n && (number o n.body 0 == 2 && nat_lt 0 (length (new_name n)))

-- the event that a note names: the one that has its id
abbrev pub named_event : Order → List IdOfEvent → FrameNote → Option ℕ
named_event o table n = if has_name o n then event_of table (number o n.body 8) else None

-- the last name of the event with that number
abbrev pub last_name : Order → List IdOfEvent → (event : ℕ) → List FrameNote → Option (List ℕ)
last_name o table event [] = None
last_name o table event (n ∷ ns) =
    newer (last_name o table event ns) (if is_event (named_event o table n) event then Some (new_name n) else None)

-- a new name, or else the one before
abbrev pub named_by : Option (List ℕ) → Name → Name
named_by (Some bytes) older = described bytes
named_by None older = older

-- the name of the event with that number: the last new one, or else that by its description
abbrev pub noted_name : Dynamic → List FrameNote → List IdOfEvent → (event : ℕ) → FileEvent → Name
noted_name order notes table event e =
    named_by (last_name (order_of order) table event notes)
    (name_of order (or_nothing (noted_feature (order_of order) 12 notes)) e)
