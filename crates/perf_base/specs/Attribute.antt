-- The attribute of an event, `struct perf_event_attr` of perf_event.h: each kernel that made it
-- larger added its fields at the end.
use Rattle.std.specs.Prelude.{ℕ, pos, ◌-◌, Bool, ◌==◌, ◌||◌, nat_lt, nat_le, Option}
use Rattle.std.specs.Option.{unwrap_or}
use Rattle.std.specs.Int.{w32, cast_signed}
use Rattle.perf_base.specs.Layout.{Parts, done, ◌>>=◌, ◌>>◌}
use Rattle.perf_base.specs.FieldWords.{u32, u64, u16_if, u32_if, u64_if, gap_if, bytes, require}
use Rattle.perf_base.specs.Zeros.{all_zero}
use Rattle.perf_base.specs.declared.sys.perf_event_attr.{perf_event_attr}
use Rattle.perf_base.specs.declared.error.ErrorKind.TheVariants.{InvalidRecord, UnsupportedData}

-- The sizes that an attribute has had, one for each time that it grew; a larger one comes from a
-- newer kernel.
abbrev pub is_attribute_size : ℕ → Bool
is_attribute_size n =
    n == 64 || n == 72 || n == 80 || n == 96 || n == 104 || n == 112 || n == 120 || n == 128
    || n == 136 || nat_lt 136 n

-- a field beyond the size is 0
abbrev pub or_zero : Option ℕ → ℕ
or_zero number = unwrap_or number 0

-- bytes that have a meaning only to a newer kernel, all of which must be zero
abbrev pub zero_tail : ℕ → Parts (Unit {0})
zero_tail n = do
  tail ← bytes n
  require (all_zero tail) UnsupportedData

-- an attribute whose fields are all 0
abbrev pub zero_attribute : perf_event_attr
zero_attribute = record {
  type_ = 0;
  size = 0;
  config = 0;
  sample_period = 0;
  sample_type = 0;
  read_format = 0;
  flags = 0;
  wakeup_events = 0;
  bp_type = 0;
  config1 = 0;
  config2 = 0;
  branch_sample_type = 0;
  sample_regs_user = 0;
  sample_stack_user = 0;
  clockid = pos 0;
  sample_regs_intr = 0;
  aux_watermark = 0;
  sample_max_stack = 0;
  aux_sample_size = 0;
  sig_data = 0;
  config3 = 0;
}

-- the fields in order, each present if the size covers it
abbrev pub attribute : Parts perf_event_attr
attribute = do
  type_ ← u32
  size ← u32
  require (is_attribute_size size) InvalidRecord
  config ← u64
  sample_period ← u64
  sample_type ← u64
  read_format ← u64
  flags ← u64
  wakeup_events ← u32
  bp_type ← u32
  config1 ← u64
  config2 ← u64_if (nat_le 72 size)
  branch_sample_type ← u64_if (nat_le 80 size)
  sample_regs_user ← u64_if (nat_le 96 size)
  sample_stack_user ← u32_if (nat_le 96 size)
  clockid ← u32_if (nat_le 96 size)
  sample_regs_intr ← u64_if (nat_le 104 size)
  aux_watermark ← u32_if (nat_le 112 size)
  sample_max_stack ← u16_if (nat_le 112 size)
  gap_if (nat_le 112 size) 2
  aux_sample_size ← u32_if (nat_le 120 size)
  gap_if (nat_le 120 size) 4
  sig_data ← u64_if (nat_le 128 size)
  config3 ← u64_if (nat_le 136 size)
  zero_tail (size - 136)
  done (record {
    type_ = type_;
    size = size;
    config = config;
    sample_period = sample_period;
    sample_type = sample_type;
    read_format = read_format;
    flags = flags;
    wakeup_events = wakeup_events;
    bp_type = bp_type;
    config1 = config1;
    config2 = or_zero config2;
    branch_sample_type = or_zero branch_sample_type;
    sample_regs_user = or_zero sample_regs_user;
    sample_stack_user = or_zero sample_stack_user;
    clockid = cast_signed w32 (or_zero clockid);
    sample_regs_intr = or_zero sample_regs_intr;
    aux_watermark = or_zero aux_watermark;
    sample_max_stack = or_zero sample_max_stack;
    aux_sample_size = or_zero aux_sample_size;
    sig_data = or_zero sig_data;
    config3 = or_zero config3;
  })
