-- The words of a record, and the line of a frame.
use Rattle.std.specs.Prelude.{ℕ, List, [], ◌∷◌, ◌++◌, codes, decimal, Result, Ok, Err}
use Rattle.perf_base.specs.declared.sys.perf_event_header.{perf_event_header}
use Rattle.perf_base.specs.declared.error.ErrorKind.{ErrorKind}
use Rattle.perf_base.specs.declared.error.ErrorKind.TheVariants.{Eof, InvalidRecord}
use Rattle.perf_base.specs.declared.error.ErrorKind.TheVariants.{UnsupportedConfig, UnsupportedData}
use Rattle.perf_base.specs.declared.error.ErrorKind.TheVariants.{External, OutOfMemory}
use Rattle.perf_types.specs.declared.numbers.Exit.{Exit}
use Rattle.perf_types.specs.declared.numbers.Lost.{Lost}
use Rattle.perf_types.specs.declared.numbers.LostSamples.{LostSamples}
use Rattle.perf_types.specs.declared.numbers.Throttle.{Throttle}
use Rattle.perf_types.specs.declared.numbers.ITraceStart.{ITraceStart}
use Rattle.perf_types.specs.declared.switch_cpu_wide.SwitchCpuWide.{SwitchCpuWide}
use Rattle.perf_types.specs.declared.switch_cpu_wide.SwitchCpuWide.TheVariants as switch
use Rattle.perf_types.specs.declared.namespaces.NamespaceEntry.{NamespaceEntry}
use Rattle.perf_types.specs.declared.numbers.AuxOutputHwId.{AuxOutputHwId}
use Rattle.perf_types.specs.Mmap.{MmapValue}
use Rattle.perf_types.specs.Comm.{CommValue}
use Rattle.perf_types.specs.MmapDetail.{DetailValue, inode_is, build_id_is}
use Rattle.perf_types.specs.Read.{TaskRead}
use Rattle.perf_types.specs.Mmap2.{Mmap2Value}
use Rattle.perf_types.specs.Numbers.{AuxValue, BpfEventValue}
use Rattle.perf_types.specs.SwitchCpuWide.{other_pid, other_tid}
use Rattle.perf_types.specs.Namespaces.{NamespacesValue}
use Rattle.perf_types.specs.KSymbol.{KSymbolValue}
use Rattle.perf_types.specs.CGroup.{CGroupValue}
use Rattle.perf_types.specs.TextPoke.{TextPokeValue}
use Rattle.perf_sample_types.specs.SampleGetters.{getters_of}
use Rattle.perf_records.specs.Records.{RecordValue, mmap_is, lost_is, comm_is, exit_is, throttle_is}
use Rattle.perf_records.specs.Records.{unthrottle_is, fork_is, read_is, sample_is, mmap2_is, aux_is}
use Rattle.perf_records.specs.Records.{itrace_start_is, lost_samples_is, switch_is}
use Rattle.perf_records.specs.Records.{switch_cpu_wide_is}
use Rattle.perf_records.specs.Records.{namespaces_is, ksymbol_is, bpf_event_is, cgroup_is}
use Rattle.perf_records.specs.Records.{text_poke_is, aux_output_hw_id_is, unknown_is}
use Rattle.perf_lines.specs.Fields.{field, number, word_of, with_commas, with_spaces}
use Rattle.perf_text.specs.Numbers.{hex_bytes}
use Rattle.perf_lines.specs.SampleText.{sample_words}

-- ---- records

-- a mapping: the task, its address, its length, its offset in the file, and the name of the file
abbrev pub mmap_words : MmapValue → List (List ℕ)
mmap_words r =
    codes "Mmap" ∷ number (codes "pid") r.pid ∷ number (codes "tid") r.tid
    ∷ number (codes "addr") r.addr ∷ number (codes "len") r.len ∷ number (codes "pgoff") r.pgoff
    ∷ field (codes "filename") (hex_bytes r.filename) ∷ []

-- how many records of an event were lost
abbrev pub lost_words : Lost → List (List ℕ)
lost_words r = codes "Lost" ∷ number (codes "id") r.id ∷ number (codes "lost") r.lost ∷ []

-- the new name of a task
abbrev pub comm_words : CommValue → List (List ℕ)
comm_words r =
    codes "Comm" ∷ number (codes "pid") r.pid ∷ number (codes "tid") r.tid
    ∷ field (codes "comm") (hex_bytes r.comm) ∷ []

-- the fields of an EXIT or a FORK
abbrev pub exit_fields : Exit → List (List ℕ)
exit_fields r =
    number (codes "pid") r.pid ∷ number (codes "ppid") r.ppid
    ∷ number (codes "tid") r.tid ∷ number (codes "ptid") r.ptid ∷ number (codes "time") r.time ∷ []

-- the fields of a THROTTLE or an UNTHROTTLE
abbrev pub throttle_fields : Throttle → List (List ℕ)
throttle_fields r =
    number (codes "time") r.time ∷ number (codes "id") r.id
    ∷ number (codes "stream_id") r.stream_id ∷ []

-- a counter of a task, with those of its numbers that are present
abbrev pub read_words : TaskRead → List (List ℕ)
read_words r =
    codes "Read" ∷ number (codes "pid") r.pid ∷ number (codes "tid") r.tid
    ∷ number (codes "value") r.values.value
    ∷ (word_of (codes "time_enabled") r.values.time_enabled
    ++ (word_of (codes "time_running") r.values.time_running
    ++ (word_of (codes "id") r.values.id ++ word_of (codes "lost") r.values.lost)))

-- the file of an MMAP2: the numbers of its inode, or its build id
abbrev pub detail_words : DetailValue → List (List ℕ)
detail_words (inode_is maj min ino ino_generation) =
    number (codes "maj") maj ∷ number (codes "min") min
    ∷ number (codes "ino") ino ∷ number (codes "ino_generation") ino_generation ∷ []
detail_words (build_id_is id) = field (codes "build_id") (hex_bytes id) ∷ []

-- a mapping, its file and how the memory may be used
abbrev pub mmap2_words : Mmap2Value → List (List ℕ)
mmap2_words r =
    codes "Mmap2" ∷ number (codes "pid") r.pid ∷ number (codes "tid") r.tid
    ∷ number (codes "addr") r.addr ∷ number (codes "len") r.len ∷ number (codes "pgoff") r.pgoff
    ∷ (detail_words r.detail
    ++ (number (codes "prot") r.prot ∷ number (codes "flags") r.flags
    ∷ field (codes "filename") (hex_bytes r.filename) ∷ []))

-- new data in the AUX area: its offset, its length and its flags
abbrev pub aux_words : AuxValue → List (List ℕ)
aux_words r =
    codes "Aux" ∷ number (codes "aux_offset") r.aux_offset ∷ number (codes "aux_size") r.aux_size
    ∷ number (codes "flags") r.flags ∷ []

-- the start of a trace of instructions of a task
abbrev pub itrace_start_words : ITraceStart → List (List ℕ)
itrace_start_words r =
    codes "ITraceStart" ∷ number (codes "pid") r.pid ∷ number (codes "tid") r.tid ∷ []

-- how many samples were lost
abbrev pub lost_samples_words : LostSamples → List (List ℕ)
lost_samples_words r = codes "LostSamples" ∷ number (codes "lost") r.lost ∷ []

-- the direction of a switch: 1 for away from the task
abbrev pub out_of : SwitchCpuWide → ℕ
out_of (switch.In pid tid) = 0
out_of (switch.Out pid tid) = 1

-- the other task of a switch, and its direction
abbrev pub switch_cpu_wide_words : SwitchCpuWide → List (List ℕ)
switch_cpu_wide_words r =
    codes "SwitchCpuWide" ∷ number (codes "pid") (other_pid r) ∷ number (codes "tid") (other_tid r)
    ∷ number (codes "out") (out_of r) ∷ []

-- a namespace: its device, a colon and its inode
abbrev pub namespace_item : NamespaceEntry → List ℕ
namespace_item e = decimal e.dev ++ (codes ":" ++ decimal e.inode)

-- the namespaces of a task
abbrev pub namespaces_words : NamespacesValue → List (List ℕ)
namespaces_words r =
    codes "Namespaces" ∷ number (codes "pid") r.pid ∷ number (codes "tid") r.tid
    ∷ field (codes "namespaces") (with_commas namespace_item r.namespaces) ∷ []

-- a symbol of the kernel: its address, its length, its type, flags and name
abbrev pub ksymbol_words : KSymbolValue → List (List ℕ)
ksymbol_words r =
    codes "KSymbol" ∷ number (codes "addr") r.addr ∷ number (codes "len") r.len
    ∷ number (codes "ksym_type") r.ksym_type ∷ number (codes "flags") r.flags
    ∷ field (codes "name") (hex_bytes r.name) ∷ []

-- a BPF program: what happened to it, its flags, its id and its tag
abbrev pub bpf_event_words : BpfEventValue → List (List ℕ)
bpf_event_words r =
    codes "BpfEvent" ∷ number (codes "ty") r.ty ∷ number (codes "flags") r.flags
    ∷ number (codes "id") r.id ∷ field (codes "tag") (hex_bytes r.tag) ∷ []

-- a control group: its id and its path
abbrev pub cgroup_words : CGroupValue → List (List ℕ)
cgroup_words r =
    codes "CGroup" ∷ number (codes "id") r.id ∷ field (codes "path") (hex_bytes r.path) ∷ []

-- a change of the kernel's code: its address, the bytes before it and those after it
abbrev pub text_poke_words : TextPokeValue → List (List ℕ)
text_poke_words r =
    codes "TextPoke" ∷ number (codes "addr") r.addr ∷ field (codes "old_bytes") (hex_bytes r.old_bytes)
    ∷ field (codes "new_bytes") (hex_bytes r.new_bytes) ∷ []

-- the id that the hardware gave an event
abbrev pub aux_output_hw_id_words : AuxOutputHwId → List (List ℕ)
aux_output_hw_id_words r =
    codes "AuxOutputHwId" ∷ number (codes "hw_id") r.hw_id ∷ []

-- a record of unknown type, as bytes
abbrev pub unknown_words : List ℕ → List (List ℕ)
unknown_words bytes = codes "Unknown" ∷ field (codes "data") (hex_bytes bytes) ∷ []

-- the name of a record, and its fields
abbrev pub record_words : RecordValue → List (List ℕ)
record_words (mmap_is r) = mmap_words r
record_words (lost_is r) = lost_words r
record_words (comm_is r) = comm_words r
record_words (exit_is r) = codes "Exit" ∷ exit_fields r
record_words (throttle_is r) = codes "Throttle" ∷ throttle_fields r
record_words (unthrottle_is r) = codes "Unthrottle" ∷ throttle_fields r
record_words (fork_is r) = codes "Fork" ∷ exit_fields r
record_words (read_is r) = read_words r
record_words (sample_is r) = sample_words (getters_of r)
record_words (mmap2_is r) = mmap2_words r
record_words (aux_is r) = aux_words r
record_words (itrace_start_is r) = itrace_start_words r
record_words (lost_samples_is r) = lost_samples_words r
record_words switch_is = codes "Switch" ∷ []
record_words (switch_cpu_wide_is r) = switch_cpu_wide_words r
record_words (namespaces_is r) = namespaces_words r
record_words (ksymbol_is r) = ksymbol_words r
record_words (bpf_event_is r) = bpf_event_words r
record_words (cgroup_is r) = cgroup_words r
record_words (text_poke_is r) = text_poke_words r
record_words (aux_output_hw_id_is r) = aux_output_hw_id_words r
record_words (unknown_is ty bytes) = unknown_words bytes

-- ---- lines

-- the name of a kind of error, as in `ErrorKind`
abbrev pub kind_name : ErrorKind → List ℕ
kind_name Eof = codes "Eof"
kind_name InvalidRecord = codes "InvalidRecord"
kind_name UnsupportedConfig = codes "UnsupportedConfig"
kind_name UnsupportedData = codes "UnsupportedData"
kind_name External = codes "External"
kind_name OutOfMemory = codes "OutOfMemory"

-- a record, or why it was refused
abbrev pub answer_words : Result RecordValue ErrorKind → List (List ℕ)
answer_words (Ok r) = record_words r
answer_words (Err e) = codes "refused" ∷ kind_name e ∷ []

-- the line of a frame: its number, its header and its result
abbrev pub line : ℕ → perf_event_header → Result RecordValue ErrorKind → List ℕ
line index h answer =
    decimal index
    ++ (with_spaces (decimal h.type_ ∷ decimal h.misc ∷ decimal h.size ∷ [])
    ++ with_spaces (answer_words answer))

-- a line with the line feed that ends it
abbrev pub with_line_feed : List ℕ → List ℕ
with_line_feed text = text ++ codes "\n"
