-- The metadata of a frame: from the `struct perf_event_header` before it and the sample id after
-- it, as perf_event.h lays out records under `sample_id_all`.
use Rattle.std.specs.Prelude.{ℕ, Bool, ◌==◌, ◌&&◌, not, nat_lt, if◌then◌else◌}
use Rattle.perf_base.specs.Configuration.{Configuration}
use Rattle.perf_base.specs.Layout.{Parts, done}
use Rattle.perf_sample_types.specs.SampleId.{SampleIdValue, no_sample_id, sample_id, sample_id_length}

-- the metadata of a record: its type and its `misc`, and the sample id at its end
pub record MetadataValue : Type 0 where
  pub ty : ℕ
  pub misc : ℕ
  pub sample_id : SampleIdValue

-- The types whose records end with a sample id: those of the kernel, below 64, except SAMPLE, which
-- has its fields at the front.
abbrev pub carries_sample_id : ℕ → Bool
carries_sample_id ty = nat_lt ty 64 && not (ty == 9)

-- the sample id of a record of a type
abbrev pub id_of_type : Configuration → ℕ → Parts SampleIdValue
id_of_type c ty = if carries_sample_id ty then sample_id c else done no_sample_id

-- how many bytes it has
abbrev pub id_length : Configuration → ℕ → ℕ
id_length c ty = if carries_sample_id ty then sample_id_length c else 0
