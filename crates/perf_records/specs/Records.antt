-- The types of records, each by its number: `enum perf_event_type` of perf_event.h, as perf_event_open(2) lists them; the
-- contents of a record in plain numbers and lists; and which of its lists are borrowed.
use Rattle.std.specs.Prelude.{ℕ, Bool, true, false, Option, Some, None, List, [], ◌∷◌, IsTrue, ◌≡◌, ◌==◌, if◌then◌else◌}
use Rattle.perf_base.specs.Cow.{cow_items, cow_form, is_borrowed}
use Rattle.perf_types.specs.declared.numbers.Lost.{Lost}
use Rattle.perf_types.specs.declared.numbers.Exit.{Exit}
use Rattle.perf_types.specs.declared.numbers.Throttle.{Throttle}
use Rattle.perf_types.specs.declared.numbers.ITraceStart.{ITraceStart}
use Rattle.perf_types.specs.declared.numbers.LostSamples.{LostSamples}
use Rattle.perf_types.specs.declared.switch_cpu_wide.SwitchCpuWide.{SwitchCpuWide}
use Rattle.perf_types.specs.declared.numbers.AuxOutputHwId.{AuxOutputHwId}
pub use Rattle.perf_types.specs.Mmap.{mmap_value}
use Rattle.perf_types.specs.Mmap.{MmapValue, IsBorrowedMmap, mmap_form}
pub use Rattle.perf_types.specs.Comm.{comm_value}
use Rattle.perf_types.specs.Comm.{CommValue, IsBorrowedComm, comm_form}
pub use Rattle.perf_types.specs.Read.{task_read}
use Rattle.perf_types.specs.Read.{TaskRead}
use Rattle.perf_sample_types.specs.Sample.{SampleValue}
pub use Rattle.perf_sample_types.specs.SampleGroups.{sample_value}
use Rattle.perf_sample_types.specs.SampleGroups.{IsBorrowedSample}
use Rattle.perf_sample_types.specs.SampleForms.{sample_form}
use Rattle.perf_sample_types.specs.declared.sample.Sample.{Sample}
pub use Rattle.perf_types.specs.Mmap2.{mmap2_value}
use Rattle.perf_types.specs.Mmap2.{Mmap2Value, IsBorrowedMmap2, mmap2_form}
pub use Rattle.perf_types.specs.Numbers.{aux_value}
use Rattle.perf_types.specs.Numbers.{AuxValue, BpfEventValue}
pub use Rattle.perf_types.specs.Namespaces.{namespaces_value}
use Rattle.perf_types.specs.Namespaces.{NamespacesValue, namespaces_form}
pub use Rattle.perf_types.specs.KSymbol.{ksymbol_value}
use Rattle.perf_types.specs.KSymbol.{KSymbolValue, IsBorrowedKSymbol, ksymbol_form}
pub use Rattle.perf_types.specs.Numbers.{bpf_event_value}
pub use Rattle.perf_types.specs.CGroup.{cgroup_value}
use Rattle.perf_types.specs.CGroup.{CGroupValue, IsBorrowedCGroup, cgroup_form}
pub use Rattle.perf_types.specs.TextPoke.{text_poke_value}
use Rattle.perf_types.specs.TextPoke.{TextPokeValue, IsBorrowedTextPoke, text_poke_form}
use Rattle.perf_records.specs.declared.record.Record.{Record}
use Rattle.perf_records.specs.declared.record.Record.TheVariants as record_of
use Rattle.perf_records.specs.declared.record_type.RecordType.{RecordType}
use Rattle.perf_records.specs.declared.record_type.RecordType.TheVariants as type

-- the type of a number, if it is one of the kernel's
abbrev pub type_of : ℕ → Option RecordType
type_of ty =
    if ty == 1 then Some type.Mmap
    else (if ty == 2 then Some type.Lost
    else (if ty == 3 then Some type.Comm
    else (if ty == 4 then Some type.Exit
    else (if ty == 5 then Some type.Throttle
    else (if ty == 6 then Some type.Unthrottle
    else (if ty == 7 then Some type.Fork
    else (if ty == 8 then Some type.Read
    else (if ty == 9 then Some type.Sample
    else (if ty == 10 then Some type.Mmap2
    else (if ty == 11 then Some type.Aux
    else (if ty == 12 then Some type.ITraceStart
    else (if ty == 13 then Some type.LostSamples
    else (if ty == 14 then Some type.Switch
    else (if ty == 15 then Some type.SwitchCpuWide
    else (if ty == 16 then Some type.Namespaces
    else (if ty == 17 then Some type.KSymbol
    else (if ty == 18 then Some type.BpfEvent
    else (if ty == 19 then Some type.CGroup
    else (if ty == 20 then Some type.TextPoke
    else (if ty == 21 then Some type.AuxOutputHwId
    else None))))))))))))))))))))

-- Records of this type need memory, even over a whole buffer: for a list, or for a box.
abbrev pub type_needs_memory : RecordType → Bool
type_needs_memory type.Sample = true
type_needs_memory type.Namespaces = true
type_needs_memory _ = false

-- A record's value, wherever its bytes are stored.
pub data RecordValue : Type 0 where
  mmap_is : MmapValue → RecordValue
  lost_is : Lost → RecordValue
  comm_is : CommValue → RecordValue
  exit_is : Exit → RecordValue
  throttle_is : Throttle → RecordValue
  unthrottle_is : Throttle → RecordValue
  fork_is : Exit → RecordValue
  read_is : TaskRead → RecordValue
  sample_is : SampleValue → RecordValue
  mmap2_is : Mmap2Value → RecordValue
  aux_is : AuxValue → RecordValue
  itrace_start_is : ITraceStart → RecordValue
  lost_samples_is : LostSamples → RecordValue
  switch_is : RecordValue
  switch_cpu_wide_is : SwitchCpuWide → RecordValue
  namespaces_is : NamespacesValue → RecordValue
  ksymbol_is : KSymbolValue → RecordValue
  bpf_event_is : BpfEventValue → RecordValue
  cgroup_is : CGroupValue → RecordValue
  text_poke_is : TextPokeValue → RecordValue
  aux_output_hw_id_is : AuxOutputHwId → RecordValue
  -- its type, and the bytes of its body
  unknown_is : ℕ → List ℕ → RecordValue

-- the value of a record of the code
abbrev pub record_value : Record → RecordValue
record_value (record_of.Mmap r) = mmap_is (mmap_value r)
record_value (record_of.Lost r) = lost_is r
record_value (record_of.Comm r) = comm_is (comm_value r)
record_value (record_of.Exit r) = exit_is r
record_value (record_of.Throttle r) = throttle_is r
record_value (record_of.Unthrottle r) = unthrottle_is r
record_value (record_of.Fork r) = fork_is r
record_value (record_of.Read r) = read_is (task_read r)
record_value (record_of.Sample r) = sample_is (sample_value r.value)
record_value (record_of.Mmap2 r) = mmap2_is (mmap2_value r)
record_value (record_of.Aux r) = aux_is (aux_value r)
record_value (record_of.ITraceStart r) = itrace_start_is r
record_value (record_of.LostSamples r) = lost_samples_is r
record_value record_of.Switch = switch_is
record_value (record_of.SwitchCpuWide r) = switch_cpu_wide_is r
record_value (record_of.Namespaces r) = namespaces_is (namespaces_value r)
record_value (record_of.KSymbol r) = ksymbol_is (ksymbol_value r)
record_value (record_of.BpfEvent r) = bpf_event_is (bpf_event_value r)
record_value (record_of.CGroup r) = cgroup_is (cgroup_value r)
record_value (record_of.TextPoke r) = text_poke_is (text_poke_value r)
record_value (record_of.AuxOutputHwId r) = aux_output_hw_id_is r
record_value (record_of.Unknown ty bytes) = unknown_is ty (cow_items bytes)

-- no byte string of it was copied
abbrev pub IsBorrowed : Record → Type 0
IsBorrowed (record_of.Mmap r) = IsBorrowedMmap r
IsBorrowed (record_of.Lost r) = Unit {0}
IsBorrowed (record_of.Comm r) = IsBorrowedComm r
IsBorrowed (record_of.Exit r) = Unit {0}
IsBorrowed (record_of.Throttle r) = Unit {0}
IsBorrowed (record_of.Unthrottle r) = Unit {0}
IsBorrowed (record_of.Fork r) = Unit {0}
IsBorrowed (record_of.Read r) = Unit {0}
IsBorrowed (record_of.Sample r) = IsBorrowedSample r.value
IsBorrowed (record_of.Mmap2 r) = IsBorrowedMmap2 r
IsBorrowed (record_of.Aux r) = Unit {0}
IsBorrowed (record_of.ITraceStart r) = Unit {0}
IsBorrowed (record_of.LostSamples r) = Unit {0}
IsBorrowed record_of.Switch = Unit {0}
IsBorrowed (record_of.SwitchCpuWide r) = Unit {0}
IsBorrowed (record_of.Namespaces r) = Unit {0}
IsBorrowed (record_of.KSymbol r) = IsBorrowedKSymbol r
IsBorrowed (record_of.BpfEvent r) = Unit {0}
IsBorrowed (record_of.CGroup r) = IsBorrowedCGroup r
IsBorrowed (record_of.TextPoke r) = IsBorrowedTextPoke r
IsBorrowed (record_of.AuxOutputHwId r) = Unit {0}
IsBorrowed (record_of.Unknown ty bytes) = IsTrue (is_borrowed bytes)

-- it is that very sample, in a box
abbrev pub HoldsSample : Sample → Record → Type 0
HoldsSample sample (record_of.Sample r) = r.value ≡ sample
HoldsSample sample _ = ⊥

-- whether each list of it is borrowed; the box of a sample counts as an owned one, and comes first
abbrev pub record_form : Record → List Bool
record_form (record_of.Mmap r) = mmap_form r
record_form (record_of.Lost r) = []
record_form (record_of.Comm r) = comm_form r
record_form (record_of.Exit r) = []
record_form (record_of.Throttle r) = []
record_form (record_of.Unthrottle r) = []
record_form (record_of.Fork r) = []
record_form (record_of.Read r) = []
record_form (record_of.Sample r) = false ∷ sample_form r.value
record_form (record_of.Mmap2 r) = mmap2_form r
record_form (record_of.Aux r) = []
record_form (record_of.ITraceStart r) = []
record_form (record_of.LostSamples r) = []
record_form record_of.Switch = []
record_form (record_of.SwitchCpuWide r) = []
record_form (record_of.Namespaces r) = namespaces_form r
record_form (record_of.KSymbol r) = ksymbol_form r
record_form (record_of.BpfEvent r) = []
record_form (record_of.CGroup r) = cgroup_form r
record_form (record_of.TextPoke r) = text_poke_form r
record_form (record_of.AuxOutputHwId r) = []
record_form (record_of.Unknown ty bytes) = cow_form bytes
