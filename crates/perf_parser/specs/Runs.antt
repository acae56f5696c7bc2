-- What a run over a stream lists, how it ends, what it leaves, and how many elementary reads it
-- makes.
use Rattle.std.specs.Prelude.{Option, Some, Result, Ok, Err, true, IsTrue, ◌≡◌}
use Rattle.std.specs.Prelude.{None, ◌⊎◌}
use Rattle.std.specs.Prelude.{ℕ, ◌+◌, ◌<◌, ◌≤◌, List, [], ◌∷◌, map, length, drop, sum_by}
use Rattle.perf_base.specs.Configuration.{Configuration}
use Rattle.perf_base.specs.Errors.{kind_of}
use Rattle.perf_base.specs.Header.{header_of}
use Rattle.perf_base.specs.Order.{Order}
use Rattle.perf_base.specs.declared.error.ErrorKind.{ErrorKind}
use Rattle.perf_base.specs.declared.error.ErrorKind.TheVariants.{OutOfMemory}
use Rattle.perf_base.specs.declared.error.ParseError.{ParseError}
use Rattle.perf_base.specs.declared.sys.perf_event_header.{perf_event_header}
use Rattle.perf_buffers.specs.Buffer.{BufferInvariant}
pub use Rattle.perf_reader.specs.Headers.{MovesWithinFrame}
use Rattle.perf_reader.specs.ReaderState.{ReaderState}
use Rattle.perf_reader.specs.Reading.{of_layout, last_of, is_external}
use Rattle.perf_records.specs.Answers.{reads_after}
pub use Rattle.perf_records.specs.Answers.{ReadsFrameAfter, answers, length_after}
use Rattle.perf_records.specs.Frames.{first_frames, frames, drop_frames}
use Rattle.perf_records.specs.Frames.{stream_end, done, cut_header}
use Rattle.perf_records.specs.Records.{RecordValue, record_value, IsBorrowed}
use Rattle.perf_records.specs.declared.record.Record.{Record}
use Rattle.perf_parser.specs.declared.run.Run.{Run}
use Rattle.perf_parser.specs.declared.run.RunEnd.{RunEnd}
use Rattle.perf_parser.specs.declared.run.RunEnd.TheVariants as end

-- ---- what it lists

-- what a run lists: the header of each frame, and its answer
abbrev pub Pairs : Type 0
Pairs = List (perf_event_header × Result Record ParseError)

-- a record by its value, a refusal by its kind
abbrev pub seen_answer : Result Record ParseError → Result RecordValue ErrorKind
seen_answer (Ok r) = Ok (record_value r)
seen_answer (Err e) = Err (kind_of e)

-- the headers and answers, in the words of the definition of answers
abbrev pub seen_answers : Pairs → List (perf_event_header × Result RecordValue ErrorKind)
seen_answers pairs = map (λ pair. (pair.0, seen_answer pair.1)) pairs

-- the same of a run
abbrev pub answers_in : Run → List (perf_event_header × Result RecordValue ErrorKind)
answers_in run = seen_answers run.frames.items

-- how many frames it lists
abbrev pub answer_count : Run → ℕ
answer_count run = length run.frames.items

-- one for each answer that is a refusal
abbrev pub refused_count : Pairs → ℕ
refused_count [] = 0
refused_count (pair ∷ pairs) =
    elim (pair.1) [ Ok r ↦ refused_count pairs | Err e ↦ 1 + refused_count pairs ]

-- no byte string of an answer was copied
abbrev pub IsBorrowedAnswer : Result Record ParseError → Type 0
IsBorrowedAnswer (Ok r) = IsBorrowed r
IsBorrowedAnswer (Err e) = Unit {0}

-- no byte string of any was
abbrev pub AllBorrowed : Pairs → Type 0
AllBorrowed [] = Unit {0}
AllBorrowed (pair ∷ pairs) = IsBorrowedAnswer pair.1 × AllBorrowed pairs

-- ---- how many reads it makes

-- the reads of a frame, by its bytes: two for its header, and those of the rest
abbrev pub listed_reads : Configuration → Order → List ℕ → ℕ
listed_reads c o frame = 2 + reads_after c o (header_of o frame) (drop 8 frame)

-- those of the first k frames
abbrev pub first_reads : Configuration → Order → ℕ → List ℕ → ℕ
first_reads c o k bytes = sum_by (listed_reads c o) (first_frames o k bytes)

-- The reads of a run, by those of its frames: one more if nothing is left, two if a header is cut;
-- those of a fault are only bounded.
abbrev pub CountsMore : (made : ℕ) → RunEnd → (old new : ℕ) → Type 0
CountsMore made end.Limit old new = new ≡ old + made
CountsMore made end.Done old new = new ≡ old + made + 1
CountsMore made end.CutHeader old new = new ≡ old + made + 2
CountsMore made (end.Fault e) old new = old + made ≤ new

-- those of a run that listed k frames
abbrev pub CountsReads : Configuration → Order → List ℕ → (k : ℕ) → RunEnd → (old new : ℕ) → Type 0
CountsReads c o bytes k e old new = CountsMore (first_reads c o k bytes) e old new

-- ---- how it ends, and what it leaves

-- the kind of the fault that ended it, if one did
abbrev pub end_refusal : RunEnd → Option ErrorKind
end_refusal end.Limit = None
end_refusal end.Done = None
end_refusal end.CutHeader = None
end_refusal (end.Fault e) = Some (kind_of e)

-- one if it ended before its limit
abbrev pub one_if_ended : RunEnd → ℕ
one_if_ended end.Limit = 0
one_if_ended end.Done = 1
one_if_ended end.CutHeader = 1
one_if_ended (end.Fault e) = 1

-- How a run over these bytes ends that has listed k frames, and what it leaves: at its limit the
-- bytes after those frames; with all frames listed nothing, if the stream is done or its last
-- header is cut; and after a fault, which is none of the layout's refusals, the bytes after those
-- frames except a prefix of the next one.
abbrev pub EndsWith : Order → (limit : ℕ) → List ℕ → (k : ℕ) → RunEnd → List ℕ → Type 0
EndsWith o limit bytes k end.Limit left = (k ≡ limit) × (left ≡ drop_frames o k bytes)
EndsWith o limit bytes k end.Done left =
    (k < limit) × (k ≡ length (frames o bytes)) × (stream_end o bytes ≡ done) × (left ≡ [])
EndsWith o limit bytes k end.CutHeader left =
    (k < limit) × (k ≡ length (frames o bytes)) × (stream_end o bytes ≡ cut_header) × (left ≡ [])
EndsWith o limit bytes k (end.Fault e) left =
    (k < limit) × (IsTrue (of_layout (kind_of e)) → ⊥)
    × MovesWithinFrame o (drop_frames o k bytes) left

-- A run that ended out of memory is between two frames: before the one that it did not list, or
-- after it.
abbrev pub EndsBetween : Order → List ℕ → (count : ℕ) → RunEnd → List ℕ → Type 0
EndsBetween o bytes count e left = end_refusal e ≡ Some OutOfMemory →
    (left ≡ drop_frames o count bytes) ⊎ (left ≡ drop_frames o (count + 1) bytes)

-- What holds between two moments of a run that listed this many refusals, the second of them after
-- the refusal that ended it, if one did.
pub record RunInvariant (start : ReaderState) (refusals : ℕ) (e : Option ErrorKind) (new : ReaderState)
    : Type 0 where
  -- the buffer stays what it is, and its faults are counted
  pub buffer : BufferInvariant start.source e new.source
  -- a fault comes only from a buffer that can fault
  pub fault : is_external e ≡ true → IsTrue start.source.can_fault
  -- at most as many reads as bytes taken, and one more for each refusal
  pub cost : IsTrue start.source.told → (start.reads ≤ new.reads)
      × (new.reads + length new.source.left ≤ start.reads + length start.source.left + refusals)
  -- what is left is an end of what was left
  pub place : IsTrue start.source.told → (length new.source.left ≤ length start.source.left)
      × (new.source.left ≡ last_of (length new.source.left) start.source.left)
