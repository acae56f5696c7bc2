-- What a call of a reader returns and leaves, and what every call keeps. Of a refusal only the kind
-- is seen.
use Rattle.std.specs.Prelude.{Option, Result, Ok, Err, Some, None, Bool, true, false, IsTrue, IfOk}
use Rattle.std.specs.Prelude.{◌≡◌, ℕ, ◌+◌, ◌-◌, ◌≤◌, List, length, drop}
use Rattle.perf_base.specs.Configuration.{Configuration}
pub use Rattle.perf_base.specs.Errors.{of_layout}
use Rattle.perf_base.specs.Layout.{Width, Shape, number, ShapeValue, Parts}
pub use Rattle.perf_base.specs.LayoutReads.{one_if_refused}
use Rattle.perf_base.specs.Refusals.{NeedsNoMemory}
use Rattle.perf_base.specs.Took.{Took, took, quit, one_took, took_by_places}
use Rattle.perf_base.specs.declared.error.ErrorKind.{ErrorKind}
use Rattle.perf_base.specs.declared.error.ErrorKind.TheVariants.{Eof, InvalidRecord}
use Rattle.perf_base.specs.declared.error.ErrorKind.TheVariants.{UnsupportedConfig, UnsupportedData}
use Rattle.perf_base.specs.declared.error.ErrorKind.TheVariants.{External, OutOfMemory}
use Rattle.perf_buffers.specs.Buffer.{BufferInvariant}
use Rattle.perf_reader.specs.ReaderState.{ReaderState}

-- ---- what is returned

-- a relation on a call: the state before it, the result, and the state after it
abbrev pub Transition : Type 0 → Type 1
Transition X = ReaderState → Result X ErrorKind → ReaderState → Type 0

-- The result is what a run made, seen through `view`; what is left and how many reads were made are
-- those of the run. On a fault, or out of memory, nothing is stated.
abbrev pub AnswersRun : {X A : Type 0} → (X → A) → Took A → Result X ErrorKind → ReaderState → Type 0
AnswersRun view r (Ok x) new = r ≡ took (view x) new.source.left new.reads
AnswersRun view r (Err e) new = IsTrue (of_layout e) → r ≡ quit e new.source.left new.reads

-- The layout of its parts, under the configuration, in the bytes that were left.
abbrev pub Reads : {X A : Type 0} → (Configuration → Parts A) → (X → A) → Transition X
Reads parts view old outcome new =
    AnswersRun view (took_by_places old.order (parts old.settings) old.source.left old.reads) outcome new

-- the same, for which no memory is taken
abbrev pub ReadsPlain : {X A : Type 0} → (Configuration → Parts A) → (X → A) → Transition X
ReadsPlain parts view old outcome new = Reads parts view old outcome new × NeedsNoMemory outcome

-- the same, if no byte is copied from a whole buffer, so that no memory is taken there
abbrev pub ReadsInPlace : {X A : Type 0} → (Configuration → Parts A) → (X → A) → (X → Type 0) → Transition X
ReadsInPlace parts view borrowed old outcome new =
    Reads parts view old outcome new
    × (IsTrue old.source.whole → IfOk outcome borrowed × NeedsNoMemory outcome)

-- the same of a single part
abbrev pub ReadsOne : {X : Type 0} → (shape : Shape) → (X → ShapeValue shape) → Transition X
ReadsOne shape view old outcome new =
    AnswersRun view (one_took old.order shape old.source.left old.reads) outcome new

-- the same of a number, for which no memory is taken
abbrev pub ReadsNumber : Width → Transition ℕ
ReadsNumber w old outcome new = ReadsOne (number w) (λ n. n) old outcome new × NeedsNoMemory outcome

-- ---- what is kept

-- the last n of a list; it is opened only when a proof asks for it
unfoldable pub last_of : ℕ → List ℕ → List ℕ
last_of n xs = drop (length xs - n) xs

-- it is a fault of the buffer
abbrev pub is_external : Option ErrorKind → Bool
is_external None = false
is_external (Some Eof) = false
is_external (Some InvalidRecord) = false
is_external (Some UnsupportedConfig) = false
is_external (Some UnsupportedData) = false
is_external (Some External) = true
is_external (Some OutOfMemory) = false

-- What holds between two moments of a reader, the second of them after a call that was refused with
-- that kind, if it was.
pub record CallInvariant (start : ReaderState) (e : Option ErrorKind) (new : ReaderState) : Type 0 where
  -- the buffer stays what it is, and its faults are counted
  pub buffer : BufferInvariant start.source e new.source
  -- a fault comes only from a buffer that can fault
  pub fault : is_external e ≡ true → IsTrue start.source.can_fault
  -- at most as many reads as bytes taken, and one more if it was refused
  pub cost : IsTrue start.source.told → (start.reads ≤ new.reads)
      × (new.reads + length new.source.left
      ≤ start.reads + length start.source.left + one_if_refused e)
  -- what is left is an end of what was left
  pub place : IsTrue start.source.told → (length new.source.left ≤ length start.source.left)
      × (new.source.left ≡ last_of (length new.source.left) start.source.left)
