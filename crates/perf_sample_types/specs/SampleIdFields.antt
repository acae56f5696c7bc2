-- The two groups in which the fields of a sample id are read, and how many bytes they take.
use Rattle.std.specs.Prelude.{◌≡◌, ℕ, ◌<◌, Ok, Err, IsTrue, length, drop}
use Rattle.perf_base.specs.FieldWords.{u32_if, u64_if, gap_if}
use Rattle.perf_base.specs.Layout.{Parts, done, ◌>>=◌, ◌>>◌}
use Rattle.perf_reader.specs.Reading.{Transition, of_layout}
use Rattle.perf_sample_types.specs.SampleId.{SampleIdValue, first_of}
use Rattle.perf_sample_types.specs.SampleId.{has_tid, has_time, has_id, has_stream_id, has_cpu, has_identifier}
use Rattle.perf_sample_types.specs.declared.sample_id.Origin.{Origin}

-- the task, the time and the id of a sample type
abbrev pub origin : ℕ → Parts Origin
origin sample_type = do
  pid ← u32_if (has_tid sample_type)
  tid ← u32_if (has_tid sample_type)
  time ← u64_if (has_time sample_type)
  id ← u64_if (has_id sample_type)
  done (record { pid = pid; tid = tid; time = time; id = id })

-- the fields after these; `proofs/Origins` shows that both are the fields
abbrev pub after_origin : ℕ → Origin → Parts SampleIdValue
after_origin sample_type o = do
  stream_id ← u64_if (has_stream_id sample_type)
  cpu ← u32_if (has_cpu sample_type)
  gap_if (has_cpu sample_type) 4
  identifier ← u64_if (has_identifier sample_type)
  done (record {
    pid = o.pid;
    tid = o.tid;
    time = o.time;
    id = first_of o.id identifier;
    stream_id = stream_id;
    cpu = cpu;
  })

-- ---- how many bytes

-- n bytes were taken; or fewer were left, if it was refused with a kind of the layout
abbrev pub TakesOrLacks : {X : Type 0} → ℕ → Transition X
TakesOrLacks n old (Ok x) new = new.source.left ≡ drop n old.source.left
TakesOrLacks n old (Err e) new = IsTrue (of_layout e) → length old.source.left < n
