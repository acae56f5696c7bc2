-- How the numbers of a body are taken one after another, and its lists passed over: where a reading is,
-- and what it has read. Private contracts use this form.
use Rattle.std.specs.Prelude.{ℕ, ◌≡◌, ◌<◌, ◌^◌, ◌≤◌, List, [], length, take, drop, Option, Some, None}
use Rattle.std.specs.Prelude.{Ok, Err}
use Rattle.perf_base.specs.Configuration.{Configuration}
use Rattle.perf_base.specs.FieldWords.{numbers}
use Rattle.perf_base.specs.Layout.{Parts, layout}
use Rattle.perf_base.specs.Order.{Order}
use Rattle.perf_base.specs.Refusals.{refusal_kind}
use Rattle.perf_base.specs.Run.{Ran, ran, stopped, run_parts}
use Rattle.perf_base.specs.declared.refusal.Refusal.{Refusal}
use Rattle.perf_records.specs.Records.{RecordValue}
use Rattle.perf_sample_types.specs.SampleId.{SampleIdValue}
use Rattle.perf_flat.specs.Flat.{StatesId, ids_of, numbers_under}
use Rattle.perf_flat.specs.Arrays.{filled, filled_spans}
use Rattle.perf_flat.specs.Spans.{HasSpans}
use Rattle.perf_flat.specs.Strings.{HasNumbers}
use Rattle.perf_flat.specs.declared.frame.FlatFrame.{FlatFrame}
use Rattle.perf_flat.specs.declared.frame.Span.{Span}
use Rattle.perf_flat.specs.declared.cursor.BodyCursor.{BodyCursor}

-- the bytes of a frame after its header, of which a body is the front
pub record IsBodyOf (frame body : List ℕ) : Type 0 where
  pub headed : 8 ≤ length frame
  pub short : length frame < 2 ^ 32
  pub count : ℕ
  pub is : body ≡ take count (drop 8 frame)

-- the bytes that are not read yet
abbrev pub left_of : BodyCursor → List ℕ
left_of s = drop s.at s.bytes.now

-- a refusal, if there was none before
abbrev pub refusal_after : Option Refusal → Refusal → Option Refusal
refusal_after (Some e) next = Some e
refusal_after None next = Some next

-- a run, of which a refusal leaves no bytes
abbrev pub cut_short : {A : Type 0} → Ran A → Ran A
cut_short (ran v left) = ran v left
cut_short (stopped e left) = stopped e []

-- The parts over the bytes that are not read yet, or the refusal before them. It is opened only when a
-- proof asks for it.
unfoldable pub run_at : {A : Type 0} → Order → Parts A → BodyCursor → Ran A
run_at o p s = elim s.refusal [ Some e ↦ stopped (refusal_kind e) [] | None ↦ cut_short (run_parts o p (left_of s)) ]

-- a value that was read, and the bytes after it, or a refusal
unfoldable pub read_to : {A : Type 0} → A → BodyCursor → Ran A
read_to v s = elim s.refusal [ Some e ↦ stopped (refusal_kind e) [] | None ↦ ran v (left_of s) ]

-- these parts were read of the body, with this value
pub record ReadsParts {A : Type 0} (o : Order) (p : Parts A) (v : A) (old new : BodyCursor) : Type 0 where
  pub run : run_at o p old ≡ read_to v new
  pub bytes : new.bytes.now ≡ old.bytes.now

-- These parts were read, and if nothing was refused, this is true of their value.
pub record ReadsFor {A : Type 0} (o : Order) (p : Parts A) (is : A → Type 0) (old new : BodyCursor) :
    Type 0 where
  pub value : A
  pub reads : ReadsParts o p value old new
  pub holds : new.refusal ≡ None → is value

-- n numbers of eight bytes were passed over, and they are at the span in each frame of the body
abbrev pub PassesNumbers : Order → ℕ → (old : BodyCursor) → Span → (new : BodyCursor) → Type 0
PassesNumbers o n old s new = ReadsFor o (numbers n)
    (λ words. (length words ≡ n)
    × ((frame : List ℕ) → IsBodyOf frame old.bytes.now → HasNumbers o frame s n (λ are. are ≡ words)))
    old new

-- ---- what is written to a flat frame

-- what it has of the header and of the configuration stays
pub record SameHead (old new : FlatFrame) : Type 0 where
  pub type_ : new.type_ ≡ old.type_
  pub misc : new.misc ≡ old.misc
  pub size : new.size ≡ old.size
  pub read : new.read ≡ old.read
  pub refusal : new.refusal ≡ old.refusal
  pub reason : new.reason ≡ old.reason
  pub present : new.present ≡ old.present
  pub read_format : new.read_format ≡ old.read_format

-- A flat frame has the numbers of a record, its spans in each frame of the body, and its sample id, which
-- is the frame's or the record's own. Its head stays.
pub record HoldsRecord (c : Configuration) (o : Order) (body : List ℕ) (value : RecordValue)
    (old new : FlatFrame) : Type 0 where
  pub numbers : new.numbers ≡ filled (numbers_under c.read_format value)
  pub spans : (frame : List ℕ) → IsBodyOf frame body → HasSpans c.read_format o frame new.spans value
  pub ids : (own : SampleIdValue) → StatesId own old → StatesId (ids_of own value) new
  pub head : SameHead old new

-- The contents of the record in a body were written, or it is refused with the kind of this refusal. It is
-- opened only when a proof asks for it.
unfoldable pub WritesRecord : Configuration → Order → Parts RecordValue → (body : List ℕ) → (old : FlatFrame) →
    Option Refusal → (new : FlatFrame) → Type 0
WritesRecord c o p body old None new =
    (value : RecordValue) × (layout o p body ≡ Ok value) × HoldsRecord c o body value old new
WritesRecord c o p body old (Some e) new = layout o p body ≡ Err (refusal_kind e)

-- A body was read from its beginning with this value, which has these numbers and spans, and whose sample
-- id is that of the frame.
pub record TakesRecord (c : Configuration) (o : Order) (p : Parts RecordValue) (value : RecordValue)
    (body numbers : List ℕ) (spans : List Span) (end : BodyCursor) : Type 0 where
  pub start : BodyCursor
  pub whole : start.bytes.now ≡ body
  pub front : start.at ≡ 0
  pub fresh : start.refusal ≡ None
  pub reads : ReadsParts o p value start end
  pub words : end.refusal ≡ None → numbers ≡ numbers_under c.read_format value
  pub there : end.refusal ≡ None → (frame : List ℕ) → IsBodyOf frame end.bytes.now →
      HasSpans c.read_format o frame (filled_spans spans) value
  pub ids : (own : SampleIdValue) → ids_of own value ≡ own
