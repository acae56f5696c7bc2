-- A read of one counter, `struct read_format` of perf_event_open(2) without PERF_FORMAT_GROUP: the
-- counter's value, followed by a number for each other flag.
use Rattle.std.specs.Prelude.{ℕ, not, List, codes, Option}
use Rattle.std.specs.Bool.{then_some}
use Rattle.perf_base.specs.Configuration.{Configuration}
use Rattle.perf_base.specs.Layout.{Parts, done, ◌>>=◌, ◌>>◌}
use Rattle.perf_base.specs.FieldWords.{u64, u64_if, require}
use Rattle.perf_base.specs.declared.error.ErrorKind.TheVariants.{UnsupportedConfig}
use Rattle.perf_counters.specs.ReadFormat.{has_time_enabled, has_time_running, has_counter_id, has_lost}
use Rattle.perf_counters.specs.ReadFormat.{has_group, has_known_bits}
use Rattle.perf_counters.specs.declared.read_value.ReadValue.{ReadValue}

-- the read of one counter as plain numbers
pub record SingleRead : Type 0 where
  pub value : ℕ
  -- how long the event was enabled, and how long it ran, in nanoseconds
  pub time_enabled : Option ℕ
  pub time_running : Option ℕ
  -- the kernel's id of the event
  pub id : Option ℕ
  -- how many of its samples were lost
  pub lost : Option ℕ

-- the numbers of a read
abbrev pub single_read : ReadValue → SingleRead
single_read r = record {
  value = r.value;
  time_enabled = r.time_enabled;
  time_running = r.time_running;
  id = r.id;
  lost = r.lost;
}

-- the read of these numbers: each counts only if its flag is in the read format
abbrev pub read_with : (read_format value time_enabled time_running id lost : ℕ) → SingleRead
read_with read_format value time_enabled time_running id lost = record {
  value = value;
  time_enabled = then_some (has_time_enabled read_format) time_enabled;
  time_running = then_some (has_time_running read_format) time_running;
  id = then_some (has_counter_id read_format) id;
  lost = then_some (has_lost read_format) lost;
}

-- the message for a group that cannot be one read
abbrev pub not_one_text : List ℕ
not_one_text = codes "can only convert groups with a single element to ReadValues"

-- A read format with a group, or with unknown flags, is refused before the first number.
abbrev pub read_value : Configuration → Parts SingleRead
read_value c = do
  require (not (has_group c.read_format)) UnsupportedConfig
  require (has_known_bits c.read_format) UnsupportedConfig
  value ← u64
  time_enabled ← u64_if (has_time_enabled c.read_format)
  time_running ← u64_if (has_time_running c.read_format)
  id ← u64_if (has_counter_id c.read_format)
  lost ← u64_if (has_lost c.read_format)
  done (record {
    value = value;
    time_enabled = time_enabled;
    time_running = time_running;
    id = id;
    lost = lost;
  })
