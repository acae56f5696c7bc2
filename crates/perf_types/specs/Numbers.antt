-- Records of numbers alone: EXIT and FORK, THROTTLE and UNTHROTTLE, LOST, LOST_SAMPLES, AUX,
-- AUX_OUTPUT_HW_ID, ITRACE_START and BPF_EVENT.
use Rattle.std.specs.Prelude.{ℕ, List}
use Rattle.perf_base.specs.Layout.{Parts, done, ◌>>=◌}
use Rattle.perf_base.specs.FieldWords.{u16, u32, u64, bytes}
use Rattle.perf_words.specs.SetBits.{aux_flags_bits}
use Rattle.perf_types.specs.declared.numbers.Exit.{Exit}
use Rattle.perf_types.specs.declared.numbers.Throttle.{Throttle}
use Rattle.perf_types.specs.declared.numbers.Lost.{Lost}
use Rattle.perf_types.specs.declared.numbers.LostSamples.{LostSamples}
use Rattle.perf_types.specs.declared.numbers.Aux.{Aux}
use Rattle.perf_types.specs.declared.numbers.AuxOutputHwId.{AuxOutputHwId}
use Rattle.perf_types.specs.declared.numbers.ITraceStart.{ITraceStart}
use Rattle.perf_types.specs.declared.numbers.BpfEvent.{BpfEvent}

-- ---- EXIT and FORK

-- the body: the task, its origin, and a time
abbrev pub exit : Parts Exit
exit = do
  pid ← u32
  ppid ← u32
  tid ← u32
  ptid ← u32
  time ← u64
  done (record { pid = pid; ppid = ppid; tid = tid; ptid = ptid; time = time })

-- ---- THROTTLE and UNTHROTTLE

-- the body: three numbers
abbrev pub throttle : Parts Throttle
throttle = do
  time ← u64
  id ← u64
  stream_id ← u64
  done (record { time = time; id = id; stream_id = stream_id })

-- ---- LOST

-- the body: two numbers
abbrev pub lost : Parts Lost
lost = do
  id ← u64
  count ← u64
  done (record { id = id; lost = count })

-- ---- LOST_SAMPLES

-- the body: one number
abbrev pub lost_samples : Parts LostSamples
lost_samples = do
  count ← u64
  done (record { lost = count })

-- ---- AUX

-- an AUX record as plain numbers
pub record AuxValue : Type 0 where
  pub aux_offset : ℕ
  pub aux_size : ℕ
  -- the bits of the set of flags, including those without a name
  pub flags : ℕ

-- the value of a record
abbrev pub aux_value : Aux → AuxValue
aux_value r =
    record { aux_offset = r.aux_offset; aux_size = r.aux_size; flags = aux_flags_bits r.flags }

-- the body: three numbers
abbrev pub aux : Parts AuxValue
aux = do
  aux_offset ← u64
  aux_size ← u64
  flags ← u64
  done (record { aux_offset = aux_offset; aux_size = aux_size; flags = flags })

-- ---- AUX_OUTPUT_HW_ID

-- the body: one number
abbrev pub aux_output_hw_id : Parts AuxOutputHwId
aux_output_hw_id = do
  hw_id ← u64
  done (record { hw_id = hw_id })

-- ---- ITRACE_START

-- the body: two numbers
abbrev pub itrace_start : Parts ITraceStart
itrace_start = do
  pid ← u32
  tid ← u32
  done (record { pid = pid; tid = tid })

-- ---- BPF_EVENT

-- a BPF_EVENT record as plain numbers
pub record BpfEventValue : Type 0 where
  pub ty : ℕ
  pub flags : ℕ
  pub id : ℕ
  pub tag : List ℕ

-- the value of a record
abbrev pub bpf_event_value : BpfEvent → BpfEventValue
bpf_event_value r = record { ty = r.ty; flags = r.flags; id = r.id; tag = r.tag }

-- the body: numbers and a tag of eight bytes
abbrev pub bpf_event : Parts BpfEventValue
bpf_event = do
  ty ← u16
  flags ← u16
  id ← u32
  tag ← bytes 8
  done (record { ty = ty; flags = flags; id = id; tag = tag })
