-- The id that determines the event of a frame is that of a full reading.
use Rattle.std.specs.Prelude.{◌≡◌, ℕ, ◌<◌, ◌≤◌, true, false, List, length, Option, Some, Ok}
use Rattle.perf_base.specs.Configuration.{Configuration, configured_by}
use Rattle.perf_base.specs.Dynamic.{order_of}
use Rattle.perf_base.specs.Order.{Order}
use Rattle.perf_base.specs.declared.sys.perf_event_header.{perf_event_header}
use Rattle.perf_records.specs.Answers.{length_after}
use Rattle.perf_records.specs.FrameNumbers.{IsRead, IsIdentifierRead}
use Rattle.perf_records.specs.Metadata.{id_length}
use Rattle.perf_sample_types.specs.SampleGetters.{getters_of}
use Rattle.perf_file.specs.Entries.{event_at}
use Rattle.perf_sections.specs.IdPlaces.{checked_places}
use Rattle.perf_sections.specs.Opened.{File, FileEvent, attributes_of}
use Rattle.perf_file.specs.Owners.{is_of_first, id_in}
use Rattle.perf_words.specs.Bits.{has_bit}

-- It is what a full reading under that configuration finds: IDENTIFIER if the sample type has that,
-- or else ID.
pub record IsIdOf (c : Configuration) (o : Order) (h : perf_event_header) (bytes : List ℕ) (found : Option ℕ) : Type 0 where
  pub identifier : has_bit c.sample_type 16 ≡ true → IsIdentifierRead o h bytes found
  pub id : has_bit c.sample_type 16 ≡ false → IsRead (λ s. (getters_of s).id) (λ ids. ids.id) c o h bytes found

-- a whole frame of the kernel's, with so many bytes after its header, that is long enough for the
-- sample id that it has under that configuration
pub record IsLongEnough (c : Configuration) (h : perf_event_header) (bytes : List ℕ) : Type 0 where
  pub kernel : h.type_ < 64
  pub header : 8 ≤ h.size
  pub whole : length bytes ≡ length_after h
  pub long : id_length c h.type_ ≤ length bytes

-- The id of a frame that is not of the first event whatever it contains, at the place that all
-- events of a file have: whichever event it may be of, it is the id that a reading under that event
-- finds.
abbrev pub DecidingIdIsRead : Type 0
DecidingIdIsRead = (f : File) (n : ℕ) (e : FileEvent) (h : perf_event_header) (bytes : List ℕ) →
    checked_places (attributes_of f.events) ≡ Ok tt → event_at f.events n ≡ Some e →
    is_of_first f h.type_ ≡ false → IsLongEnough (configured_by e.attribute) h bytes →
    IsIdOf (configured_by e.attribute) (order_of f.order) h bytes (id_in f h.type_ bytes)
