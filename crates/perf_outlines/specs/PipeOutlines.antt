-- What is known of a pipe before its events are read into memory, and of a file in either form.
use Rattle.std.specs.Prelude.{ℕ, ◌-◌, ◌/◌, ◌==◌, true, List, length, drop, min, Some, None, Result, Ok, Err, if◌then◌else◌}
use Rattle.std.specs.List.{filter, list_any}
use Rattle.perf_base.specs.declared.endian.Dynamic.{Dynamic}
use Rattle.perf_sections.specs.Opens.{◌>>=◌}
use Rattle.perf_outlines.specs.Outlines.{id_count, outline}
use Rattle.perf_file.specs.Pipes.{FrameNote, pipe_order, is_of, is_compressed, all_frames, each_of, noted_attribute, noted_ids}
use Rattle.perf_sections.specs.declared.error.OpenError.{OpenError}
use Rattle.perf_sections.specs.declared.error.OpenError.TheVariants as errors
use Rattle.perf_sections.specs.declared.head.Head.{Head}
use Rattle.perf_sections.specs.declared.section.Section.{Section}
use Rattle.perf_outlines.specs.declared.summary.Outline.{Outline}

-- what is made of a result, or its refusal
abbrev pub going_on : {A B : Type 0} → Result A OpenError → (A → Result B OpenError) → Result B OpenError
going_on result made = result >>= made

-- what is made of what is found in the notes of attributes among some frames, of which the first has
-- that number, or the first refusal
abbrev pub from_notes : {A B : Type 0} → (ℕ → FrameNote → Result A OpenError) → (index : ℕ) → List FrameNote → (List A → Result B OpenError) → Result B OpenError
from_notes item index left made = each_of item index (filter (is_of 64) left) >>= made

-- refuses frames that are compressed
abbrev pub checked_frames : List FrameNote → Result (Unit {0}) OpenError
checked_frames all = if list_any is_compressed all then Err errors.Compressed else Ok tt

-- how many attributes are in some frames, or the first that is refused
abbrev pub counted_attributes : Dynamic → List FrameNote → Result ℕ OpenError
counted_attributes order all = from_notes (noted_attribute order) 0 all (λ attributes. Ok (length attributes))

-- refuses no event
abbrev pub checked_number : ℕ → Result (Unit {0}) OpenError
checked_number count = if count == 0 then Err errors.NoAttributes else Ok tt

-- how many ids their events have, at most one for eight bytes of the file
abbrev pub counted_note_ids : Dynamic → List ℕ → List FrameNote → Result ℕ OpenError
counted_note_ids order bytes all = from_notes (noted_ids order bytes) 0 all (λ sections. Ok (min (id_count sections) (length bytes / 8)))

-- where the ids of each event are
abbrev pub note_sections : Dynamic → List ℕ → List FrameNote → Result (List Section) OpenError
note_sections order bytes all = each_of (noted_ids order bytes) 0 (filter (is_of 64) all)

-- a head that states where the frames of a pipe are: they are all bytes after its own
abbrev pub pipe_head : Dynamic → List ℕ → Head
pipe_head order bytes = record {
  order = order;
  is_closed = true;
  entry_size = 0;
  attributes = record { start = 0; size = 0 };
  frames = record { start = 16; size = length bytes - 16 };
  features = 0;
}

-- the outline of a pipe with so many events and ids
abbrev pub pipe_outline_with : Dynamic → List ℕ → (events ids : ℕ) → Outline
pipe_outline_with order bytes events ids = record { head = pipe_head order bytes; events = events; ids = ids }

-- that of a pipe, or its first refusal before two events are compared
unfoldable pub pipe_outline : Dynamic → List ℕ → Result Outline OpenError
pipe_outline order bytes = do
  plain ← checked_frames (all_frames order (drop 16 bytes))
  events ← counted_attributes order (all_frames order (drop 16 bytes))
  some ← checked_number events
  ids ← counted_note_ids order bytes (all_frames order (drop 16 bytes))
  Ok (pipe_outline_with order bytes events ids)

-- that of a file in either form
unfoldable pub form_outline : List ℕ → Result Outline OpenError
form_outline bytes = elim (pipe_order bytes) [ Some order ↦ pipe_outline order bytes | None ↦ outline bytes ]
