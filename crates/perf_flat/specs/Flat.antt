-- What a flat frame states of the bytes of a frame: what the answer to them is, in numbers, and where
-- its byte strings and lists are in the frame.
use Rattle.std.specs.Prelude.{◌≡◌, ◌⊎◌, ◌<◌, ◌≤◌, ℕ, List, length, Some, None, Result, Ok, Err}
use Rattle.std.specs.Prelude.{take, drop, [], ◌+◌, ◌==◌, ◌&&◌, ◌||◌, if◌then◌else◌}
use Rattle.std.specs.Int.RustNames.{bit_and}
use Rattle.perf_base.specs.Configuration.{Configuration}
use Rattle.perf_base.specs.Header.{header_of}
use Rattle.perf_base.specs.Order.{Order}
use Rattle.perf_base.specs.Refusals.{refusal_kind}
use Rattle.perf_base.specs.declared.error.ErrorKind.{ErrorKind}
use Rattle.perf_base.specs.declared.error.ErrorKind.TheVariants as kind
use Rattle.perf_base.specs.declared.refusal.Refusal.{Refusal}
use Rattle.perf_base.specs.declared.refusal.Refusal.TheVariants as why
use Rattle.perf_base.specs.declared.sys.perf_event_header.{perf_event_header}
use Rattle.perf_records.specs.Answers.{FrameParts, length_after, split_of_frame, answer_of_frame}
use Rattle.perf_records.specs.Frames.{frame_length}
use Rattle.perf_records.specs.Metadata.{carries_sample_id, id_length}
use Rattle.perf_records.specs.Records.{RecordValue, sample_is}
use Rattle.perf_records.specs.Records.{type_of}
use Rattle.perf_sample_types.specs.SampleGetters.{sample_id_of}
use Rattle.perf_sample_types.specs.SampleId.{SampleIdValue}
use Rattle.perf_words.specs.Bits.{has_bit}
use Rattle.perf_flat.specs.Arrays.{filled, filled_spans}
use Rattle.perf_base.specs.Attribute.{or_zero}
use Rattle.perf_flat.specs.RecordNumbers.{numbers_of}
use Rattle.perf_flat.specs.Samples.{sample_numbers, sample_present}
use Rattle.perf_flat.specs.Spans.{HasSpans}
use Rattle.perf_flat.specs.declared.frame.FlatFrame.{FlatFrame}

-- ---- the parts of a flat frame that are numbers by themselves

-- the type that was read: that of the header, if the kernel has one of that number, else 0
abbrev pub read_type : ℕ → ℕ
read_type ty = elim (type_of ty) [ Some known ↦ ty | None ↦ 0 ]

-- the flags of a sample id: TID, TIME, ID, STREAM_ID, CPU, IDENTIFIER
abbrev pub id_flags : ℕ
id_flags = 2 + 4 + 64 + 512 + 128 + 65536

-- which fields a frame has, by its type: those of a sample, or of the sample id, if it has one
abbrev pub present_of : Configuration → ℕ → ℕ
present_of c ty =
    if ty == 9 then sample_present c
    else (if carries_sample_id ty && c.sample_id_all then bit_and c.sample_type id_flags else 0)

-- the format of the counters that it has: of a READ, or of a sample that has READ
abbrev pub format_of : Configuration → ℕ → ℕ
format_of c ty =
    if ty == 8 || (ty == 9 && has_bit c.sample_type 4) then c.read_format else 0

-- the kind of a refusal as a number
abbrev pub kind_code : ErrorKind → ℕ
kind_code kind.Eof = 1
kind_code kind.InvalidRecord = 2
kind_code kind.UnsupportedConfig = 3
kind_code kind.UnsupportedData = 4
kind_code kind.External = 5
kind_code kind.OutOfMemory = 6

-- the reason of a refusal, as a number: 0 for its kind alone
abbrev pub reason_code : Refusal → ℕ
reason_code why.Eof = 0
reason_code why.SmallHeader = 1
reason_code why.NoRoomForId = 2
reason_code why.BuildIdLength = 3
reason_code why.UsedStack = 4
reason_code why.SingleRead = 5
reason_code why.GroupRead = 6
reason_code why.ReadFormat = 7
reason_code why.GroupLength = 8
reason_code why.AttributeSize = 9
reason_code why.AttributeTail = 10
reason_code why.OutOfMemory = 0
reason_code (why.Kept kind) = 0

-- ---- a record

-- its task, time, event and processor are those of a sample id, and 0 if it does not have them
pub record StatesId (ids : SampleIdValue) (f : FlatFrame) : Type 0 where
  pub pid : f.pid ≡ or_zero ids.pid
  pub tid : f.tid ≡ or_zero ids.tid
  pub time : f.time ≡ or_zero ids.time
  pub id : f.id ≡ or_zero ids.id
  pub stream_id : f.stream_id ≡ or_zero ids.stream_id
  pub cpu : f.cpu ≡ or_zero ids.cpu

-- What it states besides its spans: that there is a record, of which type, which fields and which
-- format it has, its sample id and its numbers.
pub record CarriesNumbers (c : Configuration) (ids : SampleIdValue) (all : List ℕ)
    (f : FlatFrame) : Type 0 where
  pub read : f.read ≡ read_type f.type_
  pub refusal : f.refusal ≡ 0
  pub reason : f.reason ≡ 0
  pub present : f.present ≡ present_of c f.type_
  pub read_format : f.read_format ≡ format_of c f.type_
  pub id : StatesId ids f
  pub numbers : f.numbers ≡ all

-- whose task and event it states: those of a sample, or of the sample id at the end of the frame
abbrev pub ids_of : SampleIdValue → RecordValue → SampleIdValue
ids_of ids (sample_is s) = sample_id_of s
ids_of ids value = ids

-- the numbers of a record under a read format
abbrev pub numbers_under : (read_format : ℕ) → RecordValue → List ℕ
numbers_under read_format (sample_is s) = sample_numbers read_format s
numbers_under read_format value = numbers_of value

-- It states what a record with this sample id contains, and its spans are in the frame.
abbrev pub StatesRecord : Configuration → Order → (frame : List ℕ) → SampleIdValue → RecordValue →
    FlatFrame → Type 0
StatesRecord c o frame ids value f =
    CarriesNumbers c (ids_of ids value) (filled (numbers_under c.read_format value)) f
    × HasSpans c.read_format o frame f.spans value

-- ---- a refusal

-- the flat frame of a header alone, with a refusal and a reason: all else is 0
abbrev pub empty_frame : perf_event_header → (refusal reason : ℕ) → FlatFrame
empty_frame h refusal reason = record {
  type_ = h.type_;
  misc = h.misc;
  size = h.size;
  read = 0;
  refusal = refusal;
  reason = reason;
  present = 0;
  pid = 0;
  tid = 0;
  time = 0;
  id = 0;
  stream_id = 0;
  cpu = 0;
  read_format = 0;
  numbers = filled [];
  spans = filled_spans [];
}

-- a place for frames to be read into: all is 0
abbrev pub blank_frame : FlatFrame
blank_frame = empty_frame (record { type_ = 0; misc = 0; size = 0 }) 0 0

-- the flat frame of a header without a record, and why there is none
abbrev pub refused_frame : perf_event_header → Refusal → FlatFrame
refused_frame h told =
    empty_frame h (kind_code (refusal_kind told)) (reason_code told)

-- It is refused with a kind, and has a reason of that kind. A size below 8, and a whole frame without
-- space for its sample id, have reasons of their own.
pub record StatesRefusal (c : Configuration) (h : perf_event_header) (len : ℕ) (e : ErrorKind)
    (f : FlatFrame) : Type 0 where
  pub told : Refusal
  pub of_kind : refusal_kind told ≡ e
  pub is : f ≡ refused_frame h told
  pub small : h.size < 8 → told ≡ why.SmallHeader
  pub no_room : 8 ≤ h.size → h.size ≤ len → length_after h < id_length c h.type_ →
      told ≡ why.NoRoomForId

-- ---- a frame

-- its type, its misc and its size are those of the header
pub record HasHeader (h : perf_event_header) (f : FlatFrame) : Type 0 where
  pub type_ : f.type_ ≡ h.type_
  pub misc : f.misc ≡ h.misc
  pub size : f.size ≡ h.size

-- It states what the answer to the frame is: the record, or why there is none.
abbrev pub StatesAnswer : Configuration → Order → (frame : List ℕ) →
    Result FrameParts ErrorKind → Result RecordValue ErrorKind → FlatFrame → Type 0
StatesAnswer c o frame (Ok parts) (Ok value) f =
    StatesRecord c o frame parts.metadata.sample_id value f
StatesAnswer c o frame (Err e) (Ok value) f = ⊥
StatesAnswer c o frame _ (Err e) f = StatesRefusal c (header_of o frame) (length frame) e f

-- A flat frame states what the bytes of a frame contain.
pub record IsFlat (c : Configuration) (o : Order) (frame : List ℕ) (f : FlatFrame) : Type 0 where
  pub header : HasHeader (header_of o frame) f
  pub answer : StatesAnswer c o frame (split_of_frame c o frame) (answer_of_frame c o frame) f

-- the bytes of the frame at the front of bytes
abbrev pub first_frame : Order → List ℕ → List ℕ
first_frame o bytes = take (frame_length o bytes) bytes

-- What a flat frame states of a frame by its header and the bytes after that: it states so of each
-- frame that has them.
abbrev pub IsFlatAfter : Configuration → Order → perf_event_header → List ℕ → FlatFrame → Type 0
IsFlatAfter c o h bytes f = (frame : List ℕ) → 8 ≤ length frame → header_of o frame ≡ h →
    drop 8 frame ≡ bytes → IsFlat c o frame f

-- no whole frame follows the header: its size is below 8, or bytes are missing
abbrev pub IsBad : perf_event_header → List ℕ → Type 0
IsBad h bytes = (h.size < 8) ⊎ ((8 ≤ h.size) × (length bytes < length_after h))
