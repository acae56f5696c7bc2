-- What is counted of the results of frames.
use Rattle.std.specs.Prelude.{ℕ, ◌+◌, ◌%◌, ◌^◌, List, [], ◌∷◌, length, sum, sum_by, count_by, unwrap_or}
use Rattle.std.specs.Prelude.{Result, Ok, Err, is_err, IfOk, Option, Some, None, Bool, true, false, IsTrue}
use Rattle.std.specs.Prelude.{◌≡◌, ◌≢◌, take, drop}
use Rattle.perf_base.specs.Attribute.{attribute}
use Rattle.perf_base.specs.Configuration.{Configuration, plain, configured_by}
use Rattle.perf_base.specs.Layout.{layout}
use Rattle.perf_base.specs.Order.{Order}
use Rattle.perf_base.specs.Errors.{IsMadeOf}
use Rattle.perf_base.specs.Refusals.{refusal_kind}
use Rattle.perf_base.specs.declared.error.ParseError.{ParseError}
use Rattle.perf_base.specs.declared.sys.perf_event_attr.{perf_event_attr}
use Rattle.perf_base.specs.declared.sys.perf_event_header.{perf_event_header}
use Rattle.perf_base.specs.declared.error.ErrorKind.{ErrorKind}
use Rattle.perf_base.specs.declared.error.ErrorKind.TheVariants.{External, OutOfMemory}
use Rattle.perf_types.specs.declared.numbers.Exit.{Exit}
use Rattle.perf_types.specs.declared.numbers.Lost.{Lost}
use Rattle.perf_types.specs.Mmap.{MmapValue}
use Rattle.perf_types.specs.Mmap2.{Mmap2Value}
use Rattle.perf_types.specs.Comm.{CommValue}
use Rattle.perf_reader.specs.Reading.{of_layout}
use Rattle.perf_records.specs.Answers.{answer_after, answers}
use Rattle.perf_records.specs.Gives.{Event}
use Rattle.perf_records.specs.declared.frame_handler.BadFrame.{BadFrame}
use Rattle.perf_records.specs.Sights.{Sight, whole, bad}
use Rattle.perf_parser.specs.Runs.{EndsWith}
use Rattle.perf_parser.specs.declared.run.RunEnd.{RunEnd}
use Rattle.perf_parser.specs.declared.run.RunEnd.TheVariants.{Fault}
use Rattle.perf_records.specs.Records.{RecordValue, mmap_is, lost_is, comm_is, exit_is, fork_is}
use Rattle.perf_records.specs.Records.{mmap2_is, lost_samples_is, sample_is}
use Rattle.perf_sample_types.specs.SampleGetters.{Getters, getters_of}
use Rattle.perf_reports.specs.declared.counting.FrameCounter.{FrameCounter}
use Rattle.perf_reports.specs.declared.counts.Counts.{Counts}

-- a number modulo 2^64
abbrev pub modulo_word : ℕ → ℕ
modulo_word n = n % 2 ^ 64

-- ---- what a record adds to the checksum

-- a mapping: its numbers, and the length of its path
abbrev pub mmap_sum : MmapValue → ℕ
mmap_sum r = sum (r.pid ∷ r.tid ∷ r.addr ∷ r.len ∷ r.pgoff ∷ length r.filename ∷ [])

-- the same numbers of an MMAP2, and no others
abbrev pub mmap2_sum : Mmap2Value → ℕ
mmap2_sum r = sum (r.pid ∷ r.tid ∷ r.addr ∷ r.len ∷ r.pgoff ∷ length r.filename ∷ [])

-- the new name of a task: the task, and the length of the name
abbrev pub comm_sum : CommValue → ℕ
comm_sum r = sum (r.pid ∷ r.tid ∷ length r.comm ∷ [])

-- the start or the end of a task
abbrev pub task_sum : Exit → ℕ
task_sum r = sum (r.pid ∷ r.ppid ∷ r.tid ∷ r.ptid ∷ r.time ∷ [])

-- lost records: of which event, and how many
abbrev pub lost_sum : Lost → ℕ
lost_sum r = sum (r.id ∷ r.lost ∷ [])

-- a sample: the instruction pointer, the task, the time, the period, the numbers of the call chain,
-- and the number of raw bytes; what is absent adds nothing
abbrev pub sample_sum : Getters → ℕ
sample_sum g = sum (
    unwrap_or g.ip 0 ∷
    unwrap_or g.pid 0 ∷
    unwrap_or g.tid 0 ∷
    unwrap_or g.time 0 ∷
    unwrap_or g.period 0 ∷
    sum (unwrap_or g.callchain []) ∷
    length (unwrap_or g.raw []) ∷
    []
    )

-- Records of other types add nothing.
abbrev pub record_sum : RecordValue → ℕ
record_sum (mmap_is r) = mmap_sum r
record_sum (lost_is r) = lost_sum r
record_sum (comm_is r) = comm_sum r
record_sum (exit_is r) = task_sum r
record_sum (fork_is r) = task_sum r
record_sum (mmap2_is r) = mmap2_sum r
record_sum (lost_samples_is r) = r.lost
record_sum (sample_is r) = sample_sum (getters_of r)
record_sum _ = 0

-- the number is what the record of an event adds
abbrev pub Adds : Event → ℕ → Type 0
Adds event sum = sum ≡ modulo_word (record_sum event.value)

-- ---- what is counted of frames

-- what a frame adds to the checksum: what its record adds, and its type and size; a refused one
-- adds nothing
abbrev pub frame_sum : perf_event_header × Result RecordValue ErrorKind → ℕ
frame_sum (h, Ok r) = record_sum r + h.type_ + h.size
frame_sum (h, Err e) = 0

-- the number of frames, the number of refused ones, and the checksum of the others
abbrev pub counts_of : List (perf_event_header × Result RecordValue ErrorKind) → Counts
counts_of pairs = record {
  records = modulo_word (length pairs);
  refused = modulo_word (count_by (λ pair. is_err pair.1) pairs);
  checksum = modulo_word (sum_by frame_sum pairs);
}

-- the counts of two lists of frames together
abbrev pub plus : Counts → Counts → Counts
plus a b = record {
  records = modulo_word (a.records + b.records);
  refused = modulo_word (a.refused + b.refused);
  checksum = modulo_word (a.checksum + b.checksum);
}

-- ---- what a counter is handed

-- the header of what is at the start of a frame
abbrev pub sight_header : Sight → perf_event_header
sight_header (whole h bytes borrowed) = h
sight_header (bad h e) = h

-- the result of a whole frame, or why none follows the header
abbrev pub sight_answer : Configuration → Order → Sight → Result RecordValue ErrorKind
sight_answer c o (whole h bytes borrowed) = answer_after c o h bytes
sight_answer c o (bad h e) = Err (refusal_kind e)

-- a frame is refused
abbrev pub IsRefused : Result RecordValue ErrorKind → Type 0
IsRefused answer = IfOk answer (λ value. ⊥)

-- the counts of one frame
abbrev pub counted_sight : Configuration → Order → Sight → Counts
counted_sight c o sight = counts_of ((sight_header sight, sight_answer c o sight) ∷ [])

-- a run was ended because memory ran out: by an error of that kind, without a message or a cause
abbrev pub RanOut : Option ParseError → Type 0
RanOut None = ⊥
RanOut (Some e) = IsMadeOf e OutOfMemory None None

-- how a run ends that an error ended: with that error
abbrev pub EndsBy : Option ParseError → RunEnd → Type 0
EndsBy None e = Unit {0}
EndsBy (Some x) e = e ≡ Fault x

-- A counter was handed a frame, and returned whether the run goes on. If so, the frame was counted,
-- once; if not, memory ran out, which ended the run, and the frame was not counted.
abbrev pub CountsSight : FrameCounter → Configuration → Order → Sight → Bool → FrameCounter → Type 0
CountsSight was c o sight true now = now.counts ≡ plus was.counts (counted_sight c o sight)
CountsSight was c o sight false now = (now.counts ≡ was.counts) × RanOut now.error

-- A refused frame was counted, whatever its header, or ended the run.
abbrev pub RefusesSight : ErrorKind → FrameCounter → Bool → FrameCounter → Type 0
RefusesSight kind was true now = IsTrue (of_layout kind)
    × ((h : perf_event_header) → now.counts ≡ plus was.counts (counts_of ((h, Err kind) ∷ [])))
RefusesSight kind was false now = (now.counts ≡ was.counts) × RanOut now.error

-- What a record adds was summed, if the result is a record; otherwise it was refused with the kind
-- of the result, or because memory ran out.
abbrev pub SumsAnswer : Result RecordValue ErrorKind → Result ℕ ErrorKind → Type 0
SumsAnswer answer (Ok sum) = (value : RecordValue) × (answer ≡ Ok value) × (sum ≡ modulo_word (record_sum value))
SumsAnswer answer (Err kind) = (IsTrue (of_layout kind) → answer ≡ Err kind) × (kind ≢ External)

-- what is read of a frame, or the kind of its refusal
abbrev pub bad_kinds : {A : Type 0} → Result A BadFrame → Result A ErrorKind
bad_kinds (Ok x) = Ok x
bad_kinds (Err x) = Err (refusal_kind x.refusal)

-- ---- what is counted of a stream

-- The first results of the bytes were counted, and the run ended after them as one that lists as
-- many: after all of them if nothing is left or a header is cut.
abbrev pub CountsRun : Configuration → Order → (limit : ℕ) → List ℕ → Counts → RunEnd → List ℕ → Type 0
CountsRun c o limit bytes counts e left =
    (k : ℕ) × (counts ≡ counts_of (take k (answers c o bytes))) × EndsWith o limit bytes k e left

-- The attribute at the start of the bytes, or why there is none. It is unfolded only if a proof
-- asks for it.
unfoldable pub attribute_in : Order → List ℕ → Result perf_event_attr ErrorKind
attribute_in o bytes = layout o attribute bytes

-- The same of a stream: all its bytes under the plain configuration, or those after the attribute
-- at its start, under the configuration of that.
abbrev pub CountsStream : (with_attr : Bool) → Order → (limit : ℕ) → List ℕ → Counts → RunEnd → Type 0
CountsStream false o limit bytes counts e =
    (left : List ℕ) × CountsRun plain o limit bytes counts e left
CountsStream true o limit bytes counts e =
    (attr : perf_event_attr) × (attribute_in o bytes ≡ Ok attr)
    × ((left : List ℕ) × CountsRun (configured_by attr) o limit (drop attr.size bytes) counts e left)
