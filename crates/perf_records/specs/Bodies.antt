-- The contents between a record's header and its sample id, by its type.
use Rattle.std.specs.Prelude.{ℕ, Bool, false, Option, Some, None}
use Rattle.perf_base.specs.Configuration.{Configuration}
use Rattle.perf_base.specs.FieldWords.{all_left}
use Rattle.perf_base.specs.Layout.{Parts, done, map_parts}
use Rattle.perf_records.specs.Records.{type_of, type_needs_memory}
use Rattle.perf_records.specs.Records.{RecordValue, mmap_is, lost_is}
use Rattle.perf_records.specs.Records.{comm_is, exit_is, throttle_is, unthrottle_is, fork_is}
use Rattle.perf_records.specs.Records.{read_is, sample_is, mmap2_is, aux_is, itrace_start_is}
use Rattle.perf_records.specs.Records.{lost_samples_is, switch_is, switch_cpu_wide_is}
use Rattle.perf_records.specs.Records.{namespaces_is, ksymbol_is, bpf_event_is, cgroup_is}
use Rattle.perf_records.specs.Records.{text_poke_is, aux_output_hw_id_is, unknown_is}
use Rattle.perf_records.specs.declared.record_type.RecordType.{RecordType}
use Rattle.perf_records.specs.declared.record_type.RecordType.TheVariants as type
use Rattle.perf_types.specs.Mmap.{mmap}
use Rattle.perf_types.specs.Numbers.{lost, exit, throttle, aux, itrace_start, lost_samples}
use Rattle.perf_types.specs.Numbers.{bpf_event, aux_output_hw_id}
use Rattle.perf_types.specs.Comm.{comm}
use Rattle.perf_types.specs.Read.{read}
use Rattle.perf_sample_types.specs.Sample.{sample}
use Rattle.perf_types.specs.Mmap2.{mmap2}
use Rattle.perf_types.specs.SwitchCpuWide.{switch_cpu_wide}
use Rattle.perf_types.specs.Namespaces.{namespaces}
use Rattle.perf_types.specs.KSymbol.{ksymbol}
use Rattle.perf_types.specs.CGroup.{cgroup}
use Rattle.perf_types.specs.TextPoke.{text_poke}

-- the body of a type that has no table: all of its bytes
abbrev pub unread : ℕ → Parts RecordValue
unread ty = map_parts (unknown_is ty) all_left

-- the parts of a record's body under a configuration, by its type
abbrev pub body_of : Configuration → ℕ → RecordType → Parts RecordValue
body_of c ty type.Mmap = map_parts mmap_is mmap
body_of c ty type.Lost = map_parts lost_is lost
body_of c ty type.Comm = map_parts comm_is comm
body_of c ty type.Exit = map_parts exit_is exit
body_of c ty type.Throttle = map_parts throttle_is throttle
body_of c ty type.Unthrottle = map_parts unthrottle_is throttle
body_of c ty type.Fork = map_parts fork_is exit
body_of c ty type.Read = map_parts read_is (read c)
body_of c ty type.Sample = map_parts sample_is (sample c)
body_of c ty type.Mmap2 = map_parts mmap2_is (mmap2 c)
body_of c ty type.Aux = map_parts aux_is aux
body_of c ty type.ITraceStart = map_parts itrace_start_is itrace_start
body_of c ty type.LostSamples = map_parts lost_samples_is lost_samples
body_of c ty type.Switch = done switch_is
body_of c ty type.SwitchCpuWide = map_parts switch_cpu_wide_is (switch_cpu_wide c)
body_of c ty type.Namespaces = map_parts namespaces_is namespaces
body_of c ty type.KSymbol = map_parts ksymbol_is ksymbol
body_of c ty type.BpfEvent = map_parts bpf_event_is bpf_event
body_of c ty type.CGroup = map_parts cgroup_is cgroup
body_of c ty type.TextPoke = map_parts text_poke_is text_poke
body_of c ty type.AuxOutputHwId = map_parts aux_output_hw_id_is aux_output_hw_id

-- the same for a type, or for none
abbrev pub body_of_type : Configuration → ℕ → Option RecordType → Parts RecordValue
body_of_type c ty type = elim type [ Some type ↦ body_of c ty type | None ↦ unread ty ]

-- the same by the number in its header
abbrev pub body : Configuration → ℕ → Parts RecordValue
body c ty = body_of_type c ty (type_of ty)

-- a type whose records need memory, even if a whole buffer lends its bytes
abbrev pub needs_memory_of_type : Option RecordType → Bool
needs_memory_of_type type = elim type [ Some type ↦ type_needs_memory type | None ↦ false ]

-- the same by its number
abbrev pub needs_memory : ℕ → Bool
needs_memory ty = needs_memory_of_type (type_of ty)
