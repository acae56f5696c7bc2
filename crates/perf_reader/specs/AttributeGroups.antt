-- The fields of an attribute in groups, as they are read; `proofs/Attributes` shows that they are
-- its layout.
use Rattle.std.specs.Prelude.{ℕ, nat_le}
use Rattle.std.specs.Int.{w32, cast_signed}
use Rattle.perf_base.specs.Attribute.{is_attribute_size, or_zero}
use Rattle.perf_base.specs.FieldWords.{u32, u64, u16_if, u32_if, u64_if, gap_if, require}
use Rattle.perf_base.specs.Layout.{Parts, done, ◌>>=◌, ◌>>◌}
use Rattle.perf_base.specs.declared.error.ErrorKind.TheVariants.{InvalidRecord}
use Rattle.perf_base.specs.declared.sys.perf_event_attr.{perf_event_attr}
use Rattle.perf_reader.specs.declared.attribute.Front.{Front}
use Rattle.perf_reader.specs.declared.attribute.EventFields.{EventFields}
use Rattle.perf_reader.specs.declared.attribute.WakeupFields.{WakeupFields}
use Rattle.perf_reader.specs.declared.attribute.RegisterFields.{RegisterFields}
use Rattle.perf_reader.specs.declared.attribute.AuxFields.{AuxFields}
use Rattle.perf_reader.specs.declared.attribute.LastFields.{LastFields}

-- the type and the size
abbrev pub front : Parts Front
front = do
  type_ ← u32
  size ← u32
  require (is_attribute_size size) InvalidRecord
  done (record { type_ = type_; size = size })

-- what is counted or sampled
abbrev pub event_fields : Parts EventFields
event_fields = do
  config ← u64
  sample_period ← u64
  sample_type ← u64
  read_format ← u64
  flags ← u64
  done (record {
    config = config;
    sample_period = sample_period;
    sample_type = sample_type;
    read_format = read_format;
    flags = flags;
  })

-- the fields up to a size of 80
abbrev pub wakeup_fields : ℕ → Parts WakeupFields
wakeup_fields size = do
  wakeup_events ← u32
  bp_type ← u32
  config1 ← u64
  config2 ← u64_if (nat_le 72 size)
  branch_sample_type ← u64_if (nat_le 80 size)
  done (record {
    wakeup_events = wakeup_events;
    bp_type = bp_type;
    config1 = config1;
    config2 = or_zero config2;
    branch_sample_type = or_zero branch_sample_type;
  })

-- the fields up to a size of 104
abbrev pub register_fields : ℕ → Parts RegisterFields
register_fields size = do
  sample_regs_user ← u64_if (nat_le 96 size)
  sample_stack_user ← u32_if (nat_le 96 size)
  clockid ← u32_if (nat_le 96 size)
  sample_regs_intr ← u64_if (nat_le 104 size)
  done (record {
    sample_regs_user = or_zero sample_regs_user;
    sample_stack_user = or_zero sample_stack_user;
    clockid = cast_signed w32 (or_zero clockid);
    sample_regs_intr = or_zero sample_regs_intr;
  })

-- the fields up to a size of 120
abbrev pub aux_fields : ℕ → Parts AuxFields
aux_fields size = do
  aux_watermark ← u32_if (nat_le 112 size)
  sample_max_stack ← u16_if (nat_le 112 size)
  gap_if (nat_le 112 size) 2
  aux_sample_size ← u32_if (nat_le 120 size)
  gap_if (nat_le 120 size) 4
  done (record {
    aux_watermark = or_zero aux_watermark;
    sample_max_stack = or_zero sample_max_stack;
    aux_sample_size = or_zero aux_sample_size;
  })

-- the fields up to a size of 136
abbrev pub last_fields : ℕ → Parts LastFields
last_fields size = do
  sig_data ← u64_if (nat_le 128 size)
  config3 ← u64_if (nat_le 136 size)
  done (record { sig_data = or_zero sig_data; config3 = or_zero config3 })

-- the attribute of these fields
abbrev pub attribute_of : Front → EventFields → WakeupFields → RegisterFields → AuxFields →
    LastFields → perf_event_attr
attribute_of f a b c d e = record {
  type_ = f.type_;
  size = f.size;
  config = a.config;
  sample_period = a.sample_period;
  sample_type = a.sample_type;
  read_format = a.read_format;
  flags = a.flags;
  wakeup_events = b.wakeup_events;
  bp_type = b.bp_type;
  config1 = b.config1;
  config2 = b.config2;
  branch_sample_type = b.branch_sample_type;
  sample_regs_user = c.sample_regs_user;
  sample_stack_user = c.sample_stack_user;
  clockid = c.clockid;
  sample_regs_intr = c.sample_regs_intr;
  aux_watermark = d.aux_watermark;
  sample_max_stack = d.sample_max_stack;
  aux_sample_size = d.aux_sample_size;
  sig_data = e.sig_data;
  config3 = e.config3;
}
