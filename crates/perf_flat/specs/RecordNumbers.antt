-- The numbers of a record, in the order in which a flat frame has them.
use Rattle.std.specs.Prelude.{ℕ, List, [], ◌∷◌, length}
use Rattle.perf_base.specs.Attribute.{or_zero}
use Rattle.perf_types.specs.Numbers.{AuxValue, BpfEventValue}
use Rattle.perf_types.specs.KSymbol.{KSymbolValue}
use Rattle.perf_types.specs.Mmap.{MmapValue}
use Rattle.perf_types.specs.Mmap2.{Mmap2Value}
use Rattle.perf_types.specs.MmapDetail.{maj_of, min_of, ino_of, ino_generation_of}
use Rattle.perf_types.specs.Read.{TaskRead}
use Rattle.perf_types.specs.declared.numbers.Exit.{Exit}
use Rattle.perf_types.specs.declared.switch_cpu_wide.SwitchCpuWide.{SwitchCpuWide}
use Rattle.perf_types.specs.declared.switch_cpu_wide.SwitchCpuWide.TheVariants as switch
use Rattle.perf_types.specs.declared.numbers.Throttle.{Throttle}
use Rattle.perf_records.specs.Records.{RecordValue, mmap_is, lost_is, comm_is, exit_is, throttle_is}
use Rattle.perf_records.specs.Records.{unthrottle_is, fork_is, read_is, sample_is, mmap2_is, aux_is}
use Rattle.perf_records.specs.Records.{itrace_start_is, lost_samples_is, switch_is}
use Rattle.perf_records.specs.Records.{switch_cpu_wide_is, namespaces_is, ksymbol_is, bpf_event_is}
use Rattle.perf_records.specs.Records.{cgroup_is, text_poke_is, aux_output_hw_id_is, unknown_is}

-- a mapping: its task, where it is, how long it is, and where it begins in the file
abbrev pub mmap_numbers : MmapValue → List ℕ
mmap_numbers r = r.pid ∷ r.tid ∷ r.addr ∷ r.len ∷ r.pgoff ∷ []

-- the same, how the memory may be used, how it was mapped, and the inode, if the record has one
abbrev pub mmap2_numbers : Mmap2Value → List ℕ
mmap2_numbers r =
    r.pid ∷
    r.tid ∷
    r.addr ∷
    r.len ∷
    r.pgoff ∷
    r.prot ∷
    r.flags ∷
    or_zero (maj_of r.detail) ∷
    or_zero (min_of r.detail) ∷
    or_zero (ino_of r.detail) ∷
    or_zero (ino_generation_of r.detail) ∷
    []

-- a task that was made or that ended: it, where it comes from, and when
abbrev pub task_numbers : Exit → List ℕ
task_numbers r = r.pid ∷ r.ppid ∷ r.tid ∷ r.ptid ∷ r.time ∷ []

-- an event that is held back, or goes on: when, and its two numbers
abbrev pub throttle_numbers : Throttle → List ℕ
throttle_numbers r = r.time ∷ r.id ∷ r.stream_id ∷ []

-- a task, the value of a counter of it, two times, an id, and how many samples were lost
abbrev pub read_numbers : TaskRead → List ℕ
read_numbers r =
    r.pid ∷
    r.tid ∷
    r.values.value ∷
    or_zero r.values.time_enabled ∷
    or_zero r.values.time_running ∷
    or_zero r.values.id ∷
    or_zero r.values.lost ∷
    []

-- new data in the AUX buffer: where, how much, and flags
abbrev pub aux_numbers : AuxValue → List ℕ
aux_numbers r = r.aux_offset ∷ r.aux_size ∷ r.flags ∷ []

-- the other task of a switch, and 1 if the switch went to that
abbrev pub switch_numbers : SwitchCpuWide → List ℕ
switch_numbers (switch.In pid tid) = pid ∷ tid ∷ 0 ∷ []
switch_numbers (switch.Out pid tid) = pid ∷ tid ∷ 1 ∷ []

-- a symbol: where it is, how long it is, what it is, and flags
abbrev pub ksymbol_numbers : KSymbolValue → List ℕ
ksymbol_numbers r = r.addr ∷ r.len ∷ r.ksym_type ∷ r.flags ∷ []

-- a BPF program: what happened, flags, and its number
abbrev pub bpf_event_numbers : BpfEventValue → List ℕ
bpf_event_numbers r = r.ty ∷ r.flags ∷ r.id ∷ []

-- the numbers of any record
abbrev pub numbers_of : RecordValue → List ℕ
numbers_of (mmap_is r) = mmap_numbers r
numbers_of (lost_is r) = r.id ∷ r.lost ∷ []
numbers_of (comm_is r) = r.pid ∷ r.tid ∷ []
numbers_of (exit_is r) = task_numbers r
numbers_of (throttle_is r) = throttle_numbers r
numbers_of (unthrottle_is r) = throttle_numbers r
numbers_of (fork_is r) = task_numbers r
numbers_of (read_is r) = read_numbers r
numbers_of (sample_is s) = []
numbers_of (mmap2_is r) = mmap2_numbers r
numbers_of (aux_is r) = aux_numbers r
numbers_of (itrace_start_is r) = r.pid ∷ r.tid ∷ []
numbers_of (lost_samples_is r) = r.lost ∷ []
numbers_of switch_is = []
numbers_of (switch_cpu_wide_is r) = switch_numbers r
numbers_of (namespaces_is r) = r.pid ∷ r.tid ∷ length r.namespaces ∷ []
numbers_of (ksymbol_is r) = ksymbol_numbers r
numbers_of (bpf_event_is r) = bpf_event_numbers r
numbers_of (cgroup_is r) = r.id ∷ []
numbers_of (text_poke_is r) = r.addr ∷ []
numbers_of (aux_output_hw_id_is r) = r.hw_id ∷ []
numbers_of (unknown_is ty bytes) = []
