-- Where the id of a frame is.
use Rattle.std.specs.Prelude.{ℕ, ◌+◌, ◌-◌, ◌==◌, ◌&&◌, List, [], ◌∷◌, length, nat_le, nat_lt, Bool, true, false, Option, Some, None, Result, Ok, Err, if◌then◌else◌}
use Rattle.perf_base.specs.Configuration.{Configuration, configured_by}
use Rattle.perf_base.specs.Layout.{slice}
use Rattle.perf_base.specs.Order.{Order}
use Rattle.perf_base.specs.declared.sys.perf_event_attr.{perf_event_attr}
use Rattle.perf_sections.specs.declared.id_place.IdPlace.{IdPlace}
use Rattle.perf_sections.specs.declared.error.OpenError.{OpenError}
use Rattle.perf_sections.specs.declared.error.OpenError.TheVariants as errors
use Rattle.perf_words.specs.Bits.{has_bit}

-- how many bytes the field of a flag takes under a sample type
abbrev pub field_size : ℕ → ℕ → ℕ
field_size t flag = if has_bit t flag then 8 else 0

-- an offset from the end, if records other than SAMPLE end with a sample id
abbrev pub if_at_end : Configuration → ℕ → ℕ
if_at_end c from_end = if c.sample_id_all then from_end else 0

-- the place of ID: after IP, TID, TIME and ADDR in a SAMPLE, and before STREAM_ID and CPU at the
-- end of another frame
abbrev pub place_of_id : Configuration → ℕ → IdPlace
place_of_id c t = record {
  in_sample = field_size t 0 + field_size t 1 + field_size t 2 + field_size t 3;
  from_end = if_at_end c (8 + field_size t 9 + field_size t 7);
}

-- Where the frames of an event have its id: in IDENTIFIER, the first field of a SAMPLE and the last
-- of another frame, or else in ID.
abbrev pub id_place : Configuration → Option IdPlace
id_place c =
    if has_bit c.sample_type 16 then Some (record { in_sample = 0; from_end = if_at_end c 8 })
    else (if has_bit c.sample_type 6 then Some (place_of_id c c.sample_type)
    else None)

-- whether both are there, and the same
abbrev pub is_same_place : Option IdPlace → Option IdPlace → Bool
is_same_place (Some p) (Some q) = p.in_sample == q.in_sample && p.from_end == q.from_end
is_same_place _ _ = false

-- the place of the first event
abbrev pub first_place : List perf_event_attr → Option IdPlace
first_place [] = None
first_place (a ∷ others) = id_place (configured_by a)

-- whether all events have that place
abbrev pub all_at : Option IdPlace → List perf_event_attr → Bool
all_at place [] = true
all_at place (a ∷ others) = is_same_place place (id_place (configured_by a)) && all_at place others

-- several events need one place
abbrev pub checked_places : List perf_event_attr → Result (Unit {0}) OpenError
checked_places attributes =
    if nat_lt (length attributes) 2 then Ok tt
    else (if all_at (first_place attributes) attributes then Ok tt
    else Err errors.NoIdPlace)

-- the number of the eight bytes at an offset, None if there are fewer
abbrev pub number_if : Order → List ℕ → ℕ → Option ℕ
number_if o bytes place = if nat_le (place + 8) (length bytes) then Some (o.eight (slice bytes place 8)) else None

-- the id at a place, in a frame of that type with these bytes after its header
abbrev pub id_at : Order → IdPlace → ℕ → List ℕ → Option ℕ
id_at o p type bytes =
    if type == 9 then number_if o bytes p.in_sample
    else (if nat_le p.from_end (length bytes) then number_if o bytes (length bytes - p.from_end) else None)
