-- The sample id at the end of a frame, whose fields are taken off from the last one on. Private
-- contracts use this form.
use Rattle.std.specs.Prelude.{◌≡◌, ◌<◌, ◌≤◌, ℕ, ◌+◌, ◌-◌, ◌*◌, Bool, List, length, take, drop}
use Rattle.std.specs.Prelude.{Option, Some, None, MatchOption, if◌then◌else◌}
use Rattle.perf_base.specs.Layout.{Parts, value}
use Rattle.perf_base.specs.LayoutReads.{layout_reads}
use Rattle.perf_base.specs.Order.{Order}
use Rattle.perf_records.specs.declared.frame_end.FrameEnd.{FrameEnd}
use Rattle.perf_records.specs.declared.frame_end.LastField.{LastField}
use Rattle.perf_sample_types.specs.SampleId.{SampleIdValue, one_if, has_tid, has_time, has_id}
use Rattle.perf_sample_types.specs.SampleId.{has_stream_id, has_cpu, has_identifier}

-- A field of eight bytes was taken off the end of bytes, if it is present: its bytes, and those before
-- it.
pub record TakesLast (present : Bool) (bytes : List ℕ) (field : LastField) : Type 0 where
  pub word : field.word ≡ (if present then Some (drop (length bytes - 8) bytes) else None)
  pub before : field.before.now ≡ take (length bytes - 8 * one_if present) bytes
  pub long : length field.before.now + 8 * one_if present ≡ length bytes

-- How many elementary reads the fields of a sample type are: one each, and two for TID, which has two
-- numbers, and for CPU, whose number is followed by padding.
abbrev pub id_field_reads : ℕ → ℕ
id_field_reads sample_type =
    2 * one_if (has_tid sample_type) + one_if (has_time sample_type) + one_if (has_id sample_type)
    + one_if (has_stream_id sample_type) + 2 * one_if (has_cpu sample_type)
    + one_if (has_identifier sample_type)

-- The last n bytes were taken off, as a sample id of these parts.
pub record TakesId (o : Order) (n : ℕ) (parts : Parts SampleIdValue) (bytes : List ℕ) (made : FrameEnd) :
    Type 0 where
  pub room : n ≤ length bytes
  pub id : made.id ≡ value o (drop (length bytes - n) bytes) 0 parts
  pub body : made.body.now ≡ take (length bytes - n) bytes
  pub reads : made.reads ≡ layout_reads o parts (drop (length bytes - n) bytes)
  pub bound : made.reads ≤ n

-- They were taken off, or there are fewer bytes.
abbrev pub EndsWithId : Order → ℕ → Parts SampleIdValue → List ℕ → Option FrameEnd → Type 0
EndsWithId o n parts bytes result =
    MatchOption result (length bytes < n) (λ made. TakesId o n parts bytes made)
