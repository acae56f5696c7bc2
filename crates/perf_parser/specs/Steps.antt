-- What private steps of a run list and leave: one frame of it, and the capacity for its answer; and the loop that
-- takes the steps. The contract of a run itself needs none of this.
use Rattle.std.specs.Prelude.{Option, Some, Result, Ok, Err, Bool, true, IsTrue, ◌≡◌, ◌⊎◌}
use Rattle.std.specs.Prelude.{None, max, ◌*◌, OnOk, OnErr, IfOk, IfErr, sum_by}
use Rattle.std.specs.Prelude.{ℕ, ◌+◌, ◌≤◌, List, [], ◌∷◌, ◌++◌, length, map, take, drop}
use Rattle.perf_base.specs.Configuration.{Configuration}
use Rattle.perf_base.specs.Errors.{kind_of}
use Rattle.perf_base.specs.Header.{header_of}
use Rattle.perf_base.specs.Order.{Order}
use Rattle.perf_base.specs.Refusals.{refusal_kind, error_kinds, IsErrorOf}
use Rattle.perf_base.specs.declared.error.ErrorKind.{ErrorKind}
use Rattle.perf_base.specs.declared.error.ErrorKind.TheVariants.{OutOfMemory}
use Rattle.perf_base.specs.declared.error.ParseError.{ParseError}
use Rattle.perf_base.specs.declared.sys.perf_event_header.{perf_event_header}
use Rattle.perf_base.specs.declared.refusal.Refusal.{Refusal}
use Rattle.perf_buffers.specs.Buffer.{Source}
use Rattle.perf_buffers.specs.Room.{falls_short}
use Rattle.perf_buffers.specs.Taking.{MovesWithin}
use Rattle.perf_buffers.specs.declared.outer.Outer.{Outer}
use Rattle.perf_reader.specs.Calls.{Call}
use Rattle.perf_reader.specs.ReaderState.{ReaderState, buffer_of}
use Rattle.perf_reader.specs.Reading.{Transition, of_layout}
use Rattle.perf_reader.specs.declared.header.Stop.{Stop}
use Rattle.perf_reader.specs.declared.reader.Reader.{Reader}
use Rattle.perf_reader.specs.declared.header.Stop.TheVariants as stop
use Rattle.perf_records.specs.Answers.{answer_of_frame, LeavesAllOrRest}
use Rattle.perf_records.specs.Answers.{ReadsFrameAfter, length_after}
use Rattle.perf_records.specs.Frames.{frame_length, first_frames, drop_frames}
use Rattle.perf_records.specs.declared.record.Record.{Record}
use Rattle.perf_parser.specs.declared.run.RunEnd.{RunEnd}
use Rattle.perf_parser.specs.declared.run.RunEnd.TheVariants as end
pub use Rattle.perf_reader.specs.Headers.{ReadsHeader, StopsAt, stop_kind, stop_kinds}
use Rattle.perf_parser.specs.FrameRuns.{EndsFrames, CountsRunReads, went_on, frames_refusal, one_if_run_ended}
use Rattle.perf_parser.specs.Runs.{Pairs, RunInvariant, seen_answers, IsBorrowedAnswer, AllBorrowed}

-- ---- how it stops

-- the refusal that stopped it, if one did
abbrev pub stopped_by : {A : Type 0} → Result A Stop → Option ErrorKind
stopped_by (Ok x) = None
stopped_by (Err stop.Done) = None
stopped_by (Err stop.CutHeader) = None
stopped_by (Err (stop.Refused r)) = Some (refusal_kind r)

-- one where it stopped
abbrev pub one_if_stopped : {A : Type 0} → Result A Stop → ℕ
one_if_stopped (Ok x) = 0
one_if_stopped (Err s) = 1

-- If an allocation failed, nothing was taken, or exactly the next frame.
abbrev pub StopsBetween : ReaderState → Stop → ReaderState → Type 0
StopsBetween old s new = stop_kind s ≡ OutOfMemory →
    LeavesAllOrRest old.source (frame_length old.order old.source.left) new.source

-- how a run ends that was stopped in this way: by the error that a refusal becomes, with its
-- message
abbrev pub IsEndOf : Stop → RunEnd → Type 0
IsEndOf stop.Done e = e ≡ end.Done
IsEndOf stop.CutHeader e = e ≡ end.CutHeader
IsEndOf (stop.Refused r) e = (x : ParseError) × (e ≡ end.Fault x) × IsErrorOf x r

-- ---- one frame that is listed

-- an answer that is listed is neither a fault nor out of memory
abbrev pub IsListed : Result Record ParseError → Type 0
IsListed (Ok r) = Unit {0}
IsListed (Err e) = IsTrue (of_layout (kind_of e))

-- the answer of a frame was listed after the others, and this holds of its reading
abbrev pub ListsAnswer : perf_event_header → (was now : Pairs) → (whole : Type 0) →
    (Result Record ErrorKind → Type 0) → Type 0
ListsAnswer h was now whole of_result =
    (r : Result Record ParseError) × (now ≡ was ++ (h, r) ∷ [])
    × (whole → IsBorrowedAnswer r) × IsListed r × of_result (error_kinds r)

-- the same of a refusal of the layout: the error that it becomes, with its message
abbrev pub ListsRefused : perf_event_header → Refusal → (was now : Pairs) → Type 0
ListsRefused h r was now =
    (e : ParseError) × (now ≡ was ++ (h, Err e) ∷ []) × IsErrorOf e r
    × IsTrue (of_layout (refusal_kind r))

-- the answer that was listed is no record
abbrev pub ListsNoRecord : (was now : Pairs) → Type 0
ListsNoRecord was now =
    (h : perf_event_header) × (e : ParseError) × (now ≡ was ++ (h, Err e) ∷ [])

-- What is listed of the frame after a header that was read, in capacity that was reserved; or a
-- fault or a failed allocation stops the run.
pub record ListsFrame {B E : Type 0} (source : B → Source) (hint : B → Option ℕ) (order : E → Order)
    (h : perf_event_header) (old new : Reader (Outer B) E) (was now : Pairs)
    (result : Result (Unit {0}) Refusal) : Type 0 where
  -- at most the frame's bytes are taken
  pub within : IsTrue (source (buffer_of old)).told →
      MovesWithin (source (buffer_of old)) (length_after h) (source (buffer_of new))
  -- its answer is listed after the others
  pub listed : OnOk result (ListsAnswer h was now (IsTrue (source (buffer_of old)).whole)
      (λ outcome. Call (λ (o : Outer B). source o.buf) order (ReadsFrameAfter h) old outcome new))
  -- no record is listed if the buffer reports, after the header, that it has too few bytes
  pub short : falls_short (hint (buffer_of old)) (length_after h) ≡ true →
      OnOk result (ListsNoRecord was now)
  -- nothing is listed if the run stops
  pub kept : OnErr result (now ≡ was)
  -- it stops by a refusal that is not of the layout
  pub stops : IfErr result (λ e. (IsTrue (of_layout (refusal_kind e)) → ⊥)
      × Call (λ (o : Outer B). source o.buf) order (ReadsFrameAfter h) old (Err (refusal_kind e)) new)
  -- if an allocation fails over a slice, exactly the frame is taken
  pub spent : IsTrue (source (buffer_of old)).told → IsTrue (source (buffer_of old)).whole →
      IfErr result (λ e. refusal_kind e ≡ OutOfMemory →
      (source (buffer_of new)).left ≡ drop (length_after h) (source (buffer_of old)).left)

-- ---- capacity for its answer

-- Capacity is reserved for as many answers as frames of eight bytes or more are shown, at most 256,
-- for as many again as there are, or for one.
abbrev pub MakesRoom : (left count old new : ℕ) → Type 0
MakesRoom left count old new =
    (shown : ℕ) × (shown ≤ 256) × (8 * shown ≤ left)
    × (new ≤ max old (count + max shown (max count 1)))

-- Nothing was taken. If the buffer shows nothing, that was the read of a first byte.
abbrev pub TakesNothing : Transition (Unit {0})
TakesNothing old (Ok x) new =
    (new.source.left ≡ old.source.left) × (new.reads ≡ old.reads)
TakesNothing old (Err e) new = new.source.left ≡ old.source.left

-- ---- the loop of a run

-- what is stated of the states that a run's steps change
pub record StepKind (S : Type 0) : Type 1 where
  -- how many refusals a state has listed
  pub refusals : S → ℕ
  -- the reads of a frame, by its bytes
  pub reads : Configuration → Order → List ℕ → ℕ
  -- what the state is after this many frames from a start and a first state, and whether the run
  -- goes on
  pub so_far : ReaderState → S → ℕ → Bool → S → Type 0
  -- if an allocation can fail over a slice too
  pub allocates : Type 0

-- the reads of the first k frames
abbrev pub reads_of_first : {S : Type 0} → StepKind S → ReaderState → ℕ → ℕ
reads_of_first kind start k =
    sum_by (kind.reads start.settings start.order) (first_frames start.order k start.source.left)

-- The first k frames are all present, and this is left after them.
pub record IsAfter (start : ReaderState) (k : ℕ) (here : ReaderState) : Type 0 where
  pub there : length (first_frames start.order k start.source.left) ≡ k
  pub left_is : here.source.left ≡ drop_frames start.order k start.source.left

-- a run has taken the first k frames
pub record HasTaken {S : Type 0} (kind : StepKind S) (start : ReaderState) (k : ℕ) (here : ReaderState)
    (now : S) : Type 0 where
  pub settings : here.settings ≡ start.settings
  pub order : here.order ≡ start.order
  pub keeps : RunInvariant start (kind.refusals now) None here
  pub after : IsTrue start.source.told → IsAfter start k here
  pub reads : IsTrue start.source.told → here.reads ≡ start.reads + reads_of_first kind start k

-- the next frame is taken whole, in its reads
abbrev pub TakesNext : {S : Type 0} → StepKind S → Configuration → Order → (old new : ReaderState) →
    Type 0
TakesNext kind c o old new = let bytes = old.source.left in
    (8 ≤ length bytes) × (new.source.left ≡ drop (frame_length o bytes) bytes)
    × (new.reads ≡ old.reads + kind.reads c o (take (frame_length o bytes) bytes))

-- a step takes the next frame and returns whether the run goes on, or why it stops
pub record TakesStep {S : Type 0} (kind : StepKind S) (old : ReaderState) (was : S)
    (result : Result Bool Stop) (new : ReaderState) (now : S) : Type 0 where
  pub so_far : IfOk result (λ go. (start : ReaderState) (first : S) (k : ℕ) →
      HasTaken kind start k old was → kind.so_far start first k true was →
      kind.so_far start first (k + 1) go now)
  pub takes : IsTrue old.source.told →
      OnOk result (TakesNext kind old.settings old.order old new)
  pub same : OnErr result ((start : ReaderState) (first : S) (k : ℕ) →
      kind.so_far start first k true was → kind.so_far start first k true now)
  pub stop : IsTrue old.source.told → IfErr result (λ s. StopsAt old s new)
  pub memory : IsTrue old.source.told → IsTrue old.source.whole → IfErr result (λ s.
      StopsBetween old s new × (stop_kind s ≡ OutOfMemory → kind.allocates))
  pub keeps : (start : ReaderState) → RunInvariant start (kind.refusals was) None old →
      RunInvariant start (kind.refusals now + one_if_stopped result) (stopped_by result) new

-- a run takes k steps: the state after them, how it ends, and what it leaves
pub record TakesSteps {S : Type 0} (kind : StepKind S) (start : ReaderState) (first : S) (limit k : ℕ)
    (e : Option RunEnd) (new : ReaderState) (now : S) : Type 0 where
  pub within : k ≤ limit
  pub so_far : kind.so_far start first k (went_on e) now
  pub there : IsTrue start.source.told → length (first_frames start.order k start.source.left) ≡ k
  pub ends : IsTrue start.source.told →
      EndsFrames start.order limit start.source.left k e new.source.left
  pub reads : IsTrue start.source.told → CountsRunReads (reads_of_first kind start k) e start.reads new.reads
  pub memory : IsTrue start.source.told → IsTrue start.source.whole →
      frames_refusal e ≡ Some OutOfMemory → kind.allocates
      × ((new.source.left ≡ drop_frames start.order k start.source.left)
      ⊎ (new.source.left ≡ drop_frames start.order (k + 1) start.source.left))
  pub keeps : RunInvariant start (kind.refusals now + one_if_run_ended e) (frames_refusal e) new

-- the first k frames were listed, if their bytes are known with their answers
pub record ListsFirst (start : ReaderState) (k : ℕ) (go : Bool) (pairs : Pairs) : Type 0 where
  pub count : length pairs ≡ k
  pub goes : go ≡ true
  pub borrowed : IsTrue start.source.whole → AllBorrowed pairs
  pub answers : IsTrue start.source.told → seen_answers pairs
      ≡ map (λ frame. (header_of start.order frame, answer_of_frame start.settings start.order frame))
      (first_frames start.order k start.source.left)
