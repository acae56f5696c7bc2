-- PERF_RECORD_READ: a process, its thread, and the read of one of its counters.
use Rattle.std.specs.Prelude.{ℕ}
use Rattle.perf_base.specs.Configuration.{Configuration}
use Rattle.perf_base.specs.Layout.{Parts, done, ◌>>=◌}
use Rattle.perf_base.specs.FieldWords.{u32}
use Rattle.perf_counters.specs.ReadValue.{SingleRead, single_read, read_value}
use Rattle.perf_types.specs.declared.read.Read.{Read}

-- a READ record as plain numbers
pub record TaskRead : Type 0 where
  pub pid : ℕ
  pub tid : ℕ
  pub values : SingleRead

-- the numbers of a record
abbrev pub task_read : Read → TaskRead
task_read r = record { pid = r.pid; tid = r.tid; values = single_read r.values }

-- A read format that is refused is found after the process and its thread.
abbrev pub read : Configuration → Parts TaskRead
read c = do
  pid ← u32
  tid ← u32
  values ← read_value c
  done (record { pid = pid; tid = tid; values = values })
