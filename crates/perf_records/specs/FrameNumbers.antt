-- Single numbers of a frame, by their offsets: a SAMPLE has them at its front, and another frame of
-- the kernel's in its sample id, each in a field of eight bytes.
use Rattle.std.specs.Prelude.{ℕ, ◌+◌, ◌-◌, ◌*◌, List, [], ◌∷◌, length, Option, Some, None, option_map}
use Rattle.std.specs.Prelude.{◌==◌, nat_le, nat_lt, if◌then◌else◌, ◌≡◌, Ok, IfOk, MatchResult, true, false}
use Rattle.perf_base.specs.Configuration.{Configuration}
use Rattle.perf_base.specs.Layout.{slice}
use Rattle.perf_base.specs.Order.{Order}
use Rattle.perf_base.specs.declared.sys.perf_event_header.{perf_event_header}
use Rattle.perf_records.specs.Answers.{answer_after, id_bytes, split_after}
use Rattle.perf_records.specs.Metadata.{carries_sample_id, id_length}
use Rattle.perf_records.specs.Records.{sample_is}
use Rattle.perf_records.specs.declared.frame_numbers.Place.{Place}
use Rattle.perf_sample_types.specs.Sample.{SampleValue}
use Rattle.perf_sample_types.specs.SampleGetters.{number_in, field_at}
use Rattle.perf_sample_types.specs.SampleId.{SampleIdValue, one_if}
use Rattle.perf_words.specs.Bits.{has_bit}

-- ---- places

-- the eight bytes at an offset, None if there are fewer
abbrev pub eight_at : List ℕ → ℕ → Option (List ℕ)
eight_at bytes place = if nat_le (place + 8) (length bytes) then Some (slice bytes place 8) else None

-- how many bytes the fields of these flags take: eight for each that the sample type has
abbrev pub bytes_of : (sample_type : ℕ) → (flags : List ℕ) → ℕ
bytes_of t [] = 0
bytes_of t (flag ∷ flags) = 8 * one_if (has_bit t flag) + bytes_of t flags

-- a field, by its flag, and the flags of the fields before it in a SAMPLE and in a sample id
pub record NumberField : Type 0 where
  pub flag : ℕ
  pub in_sample : List ℕ
  pub in_id : List ℕ

-- PERF_SAMPLE_TIME, in a SAMPLE after IDENTIFIER, IP and TID, in a sample id after TID
abbrev pub time_field : NumberField
time_field = record { flag = 2; in_sample = 16 ∷ 0 ∷ 1 ∷ []; in_id = 1 ∷ [] }

-- PERF_SAMPLE_TID, in a SAMPLE after IDENTIFIER and IP, in a sample id the first
abbrev pub task_field : NumberField
task_field = record { flag = 1; in_sample = 16 ∷ 0 ∷ []; in_id = [] }

-- PERF_SAMPLE_ID, in a SAMPLE after IDENTIFIER, IP, TID, TIME and ADDR, in a sample id after TID
-- and TIME
abbrev pub id_field : NumberField
id_field = record { flag = 6; in_sample = 16 ∷ 0 ∷ 1 ∷ 2 ∷ 3 ∷ []; in_id = 1 ∷ 2 ∷ [] }

-- PERF_SAMPLE_CPU, in a SAMPLE after these, ID and STREAM_ID, in a sample id after TID, TIME, ID
-- and STREAM_ID
abbrev pub cpu_field : NumberField
cpu_field = record {
  flag = 7;
  in_sample = 16 ∷ 0 ∷ 1 ∷ 2 ∷ 3 ∷ 6 ∷ 9 ∷ [];
  in_id = 1 ∷ 2 ∷ 6 ∷ 9 ∷ [];
}

-- PERF_SAMPLE_IDENTIFIER, in a SAMPLE the first, in a sample id the last, after TID, TIME, ID,
-- STREAM_ID and CPU
abbrev pub identifier_field : NumberField
identifier_field = record { flag = 16; in_sample = []; in_id = 1 ∷ 2 ∷ 6 ∷ 9 ∷ 7 ∷ [] }

-- the field with the event's id: ID if the sample type has that, or else IDENTIFIER
abbrev pub event_field : (sample_type : ℕ) → NumberField
event_field t = if has_bit t 6 then id_field else identifier_field

-- the place of a field under a sample type
abbrev pub number_place : (sample_type : ℕ) → NumberField → Place
number_place t field = record {
  present = has_bit t field.flag;
  in_sample = bytes_of t field.in_sample;
  in_id = bytes_of t field.in_id;
}

-- The eight bytes of a field, in a frame with these bytes after its header: None if the sample type
-- does not have its flag, if a SAMPLE ends before them, or if another frame has no sample id or is
-- too short for it.
abbrev pub place_bytes : Configuration → Place → perf_event_header → List ℕ → Option (List ℕ)
place_bytes c place h bytes =
    if place.present
    then (if h.type_ == 9 then eight_at bytes place.in_sample
    else (if nat_le (id_length c h.type_) (length bytes)
    then eight_at (id_bytes c h bytes) place.in_id
    else None))
    else None

-- the same of a field
abbrev pub field_bytes : Configuration → NumberField → perf_event_header → List ℕ → Option (List ℕ)
field_bytes c field h bytes = place_bytes c (number_place c.sample_type field) h bytes

-- ---- numbers

-- the first four of eight bytes as a number
abbrev pub first_half : Order → List ℕ → ℕ
first_half o bytes = o.four (slice bytes 0 4)

-- the last four
abbrev pub second_half : Order → List ℕ → ℕ
second_half o bytes = o.four (slice bytes 4 4)

-- when it happened
abbrev pub time_in : Configuration → Order → perf_event_header → List ℕ → Option ℕ
time_in c o h bytes = option_map o.eight (field_bytes c time_field h bytes)

-- in which process
abbrev pub pid_in : Configuration → Order → perf_event_header → List ℕ → Option ℕ
pid_in c o h bytes = option_map (first_half o) (field_bytes c task_field h bytes)

-- in which thread
abbrev pub tid_in : Configuration → Order → perf_event_header → List ℕ → Option ℕ
tid_in c o h bytes = option_map (second_half o) (field_bytes c task_field h bytes)

-- on which processor
abbrev pub cpu_in : Configuration → Order → perf_event_header → List ℕ → Option ℕ
cpu_in c o h bytes = option_map (first_half o) (field_bytes c cpu_field h bytes)

-- of which event: the value of ID if the sample type has that, or else of IDENTIFIER
abbrev pub id_in : Configuration → Order → perf_event_header → List ℕ → Option ℕ
id_in c o h bytes = option_map o.eight (field_bytes c (event_field c.sample_type) h bytes)

-- The bytes of IDENTIFIER if the sample type has it: the first eight bytes of a SAMPLE, and the
-- last of another frame of the kernel's, whose types are below 64. None if there are fewer.
abbrev pub identifier_bytes : (type : ℕ) → List ℕ → Option (List ℕ)
identifier_bytes type bytes =
    if type == 9 then eight_at bytes 0
    else (if nat_lt type 64 then eight_at bytes (length bytes - 8) else None)

-- its value
abbrev pub identifier_in : Order → perf_event_header → List ℕ → Option ℕ
identifier_in o h bytes = option_map o.eight (identifier_bytes h.type_ bytes)

-- ---- the same number in the parsed record

-- It is the number in the parsed frame: of a SAMPLE that of the sample, if it is not refused; of
-- another frame that of the sample id, and None if the frame is too short for it.
abbrev pub IsRead : (of_sample : SampleValue → Option ℕ) → (of_id : SampleIdValue → Option ℕ) →
    Configuration → Order → perf_event_header → List ℕ → Option ℕ → Type 0
IsRead of_sample of_id c o h bytes n =
    (h.type_ ≡ 9 → (s : SampleValue) → answer_after c o h bytes ≡ Ok (sample_is s) →
    n ≡ of_sample s)
    × ((h.type_ ≡ 9 → ⊥) → MatchResult (split_after c o h bytes)
    (λ parts. n ≡ of_id parts.metadata.sample_id) (λ e. n ≡ None))

-- It is the value of IDENTIFIER, under every configuration whose sample type has that: of a SAMPLE
-- the field of the sample, if it is not refused. Of another frame that ends with a sample id it is
-- the IDENTIFIER in that, which is also its id if the sample type has no ID.
abbrev pub IsIdentifierRead : Order → perf_event_header → List ℕ → Option ℕ → Type 0
IsIdentifierRead o h bytes n = (c : Configuration) → has_bit c.sample_type 16 ≡ true →
    (h.type_ ≡ 9 → (s : SampleValue) → answer_after c o h bytes ≡ Ok (sample_is s) →
    n ≡ number_in (field_at s 0))
    × (carries_sample_id h.type_ ≡ true → c.sample_id_all ≡ true →
    IfOk (split_after c o h bytes) (λ parts.
    (n ≡ option_map o.eight (field_bytes c identifier_field h bytes))
    × (has_bit c.sample_type 6 ≡ false → n ≡ parts.metadata.sample_id.id)))
