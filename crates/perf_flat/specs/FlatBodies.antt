-- What a flat frame states of a record whose header and sample id were taken off.
use Rattle.std.specs.Prelude.{◌≡◌, ◌+◌, ◌++◌, ℕ, false, List, length, Result, Ok, Err}
use Rattle.perf_base.specs.Configuration.{Configuration, under_misc}
use Rattle.perf_base.specs.Layout.{layout}
use Rattle.perf_base.specs.Order.{Order}
use Rattle.perf_base.specs.Refusals.{refusal_kind}
use Rattle.perf_base.specs.declared.error.ErrorKind.{ErrorKind}
use Rattle.perf_base.specs.declared.refusal.Refusal.{Refusal}
use Rattle.perf_base.specs.declared.sys.perf_event_header.{perf_event_header}
use Rattle.perf_records.specs.Bodies.{body}
use Rattle.perf_records.specs.Records.{RecordValue}
use Rattle.perf_sample_types.specs.SampleId.{no_sample_id}
use Rattle.perf_flat.specs.Flat.{StatesRecord, HasHeader, refused_frame}
use Rattle.perf_flat.specs.declared.frame.FlatFrame.{FlatFrame}

-- the same configuration of frames without a sample id
abbrev pub without_ids : Configuration → Configuration
without_ids c = record c { sample_id_all = false }

-- the header of the frame that has a type, a misc, this body and nothing else
abbrev pub header_before : (type misc : ℕ) → List ℕ → perf_event_header
header_before type misc bytes = record { type_ = type; misc = misc; size = 8 + length bytes }

-- It states what the body contains as the record of a frame without a sample id, whose body is after
-- eight bytes; or why the body contains no record.
abbrev pub StatesBody : Configuration → Order → perf_event_header → (frame : List ℕ) →
    Result RecordValue ErrorKind → FlatFrame → Type 0
StatesBody c o h frame (Ok value) f =
    StatesRecord (without_ids c) o frame no_sample_id value f
StatesBody c o h frame (Err e) f =
    (told : Refusal) × (refusal_kind told ≡ e) × (f ≡ refused_frame h told)

-- A flat frame states what a body contains, by the table of its type under the frame's own misc. Its
-- spans count from eight bytes before the body, whatever these bytes are.
pub record IsFlatBody (c : Configuration) (o : Order) (h : perf_event_header) (bytes : List ℕ)
    (f : FlatFrame) : Type 0 where
  pub header : HasHeader h f
  pub answer : (front : List ℕ) → length front ≡ 8 → StatesBody c o h (front ++ bytes)
      (layout o (body (under_misc h.misc c) h.type_) bytes) f
