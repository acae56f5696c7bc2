-- The sample id, `struct sample_id` of perf_event_open(2): fields that the kernel writes at the end
-- of records if `sample_id_all` is set. Each flag of the sample type takes eight bytes.
use Rattle.std.specs.Prelude.{ℕ, ◌+◌, ◌*◌, Bool, Option, Some, None, if◌then◌else◌}
use Rattle.perf_base.specs.Configuration.{Configuration}
use Rattle.perf_words.specs.Bits.{has_bit}
use Rattle.perf_base.specs.Layout.{Parts, done, ◌>>=◌, ◌>>◌}
use Rattle.perf_base.specs.FieldWords.{u32_if, u64_if, gap_if}

-- a sample id in plain numbers
pub record SampleIdValue : Type 0 where
  pub pid : Option ℕ
  pub tid : Option ℕ
  pub time : Option ℕ
  pub id : Option ℕ
  pub stream_id : Option ℕ
  pub cpu : Option ℕ

-- one without fields
abbrev pub no_sample_id : SampleIdValue
no_sample_id =
    record { pid = None; tid = None; time = None; id = None; stream_id = None; cpu = None }

-- ---- the flags of the sample type that count, PERF_SAMPLE_*

-- PERF_SAMPLE_TID
abbrev pub has_tid : ℕ → Bool
has_tid sample_type = has_bit sample_type 1

-- PERF_SAMPLE_TIME
abbrev pub has_time : ℕ → Bool
has_time sample_type = has_bit sample_type 2

-- PERF_SAMPLE_ID
abbrev pub has_id : ℕ → Bool
has_id sample_type = has_bit sample_type 6

-- PERF_SAMPLE_CPU
abbrev pub has_cpu : ℕ → Bool
has_cpu sample_type = has_bit sample_type 7

-- PERF_SAMPLE_STREAM_ID
abbrev pub has_stream_id : ℕ → Bool
has_stream_id sample_type = has_bit sample_type 9

-- PERF_SAMPLE_IDENTIFIER
abbrev pub has_identifier : ℕ → Bool
has_identifier sample_type = has_bit sample_type 16

-- ---- tables

-- the first number if present, or else the second
abbrev pub first_of : Option ℕ → Option ℕ → Option ℕ
first_of (Some n) _ = Some n
first_of None second = second

-- The fields of a sample type. The id is at one of two places, or at both.
abbrev pub sample_id_fields : ℕ → Parts SampleIdValue
sample_id_fields sample_type = do
  pid ← u32_if (has_tid sample_type)
  tid ← u32_if (has_tid sample_type)
  time ← u64_if (has_time sample_type)
  id ← u64_if (has_id sample_type)
  stream_id ← u64_if (has_stream_id sample_type)
  cpu ← u32_if (has_cpu sample_type)
  gap_if (has_cpu sample_type) 4
  identifier ← u64_if (has_identifier sample_type)
  done (record {
    pid = pid;
    tid = tid;
    time = time;
    id = first_of id identifier;
    stream_id = stream_id;
    cpu = cpu;
  })

-- what it is under a configuration: without `sample_id_all` there is none
abbrev pub sample_id : Configuration → Parts SampleIdValue
sample_id c = if c.sample_id_all then sample_id_fields c.sample_type else done no_sample_id

-- ---- its length

-- one for a flag that is set
abbrev pub one_if : Bool → ℕ
one_if flag = if flag then 1 else 0

-- how many flags are set
abbrev pub sample_id_flags : ℕ → ℕ
sample_id_flags sample_type =
    one_if (has_tid sample_type) + one_if (has_time sample_type) + one_if (has_id sample_type)
    + one_if (has_stream_id sample_type) + one_if (has_cpu sample_type)
    + one_if (has_identifier sample_type)

-- how many bytes it has
abbrev pub sample_id_length : Configuration → ℕ
sample_id_length c = if c.sample_id_all then 8 * sample_id_flags c.sample_type else 0
