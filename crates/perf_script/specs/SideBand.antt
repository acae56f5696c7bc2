-- The lines of records that are no samples.
use Rattle.std.specs.Prelude.{ℕ, List, [], ◌++◌, Option, Some, None, Result, Ok, if◌then◌else◌}
use Rattle.perf_base.specs.Attribute.{or_zero}
use Rattle.perf_base.specs.Configuration.{Configuration}
use Rattle.perf_base.specs.Header.{header_of}
use Rattle.perf_base.specs.Misc.{build_id_bit}
use Rattle.perf_base.specs.Order.{Order}
use Rattle.perf_base.specs.declared.error.ErrorKind.{ErrorKind}
use Rattle.perf_flat.specs.Arrays.{low_u32}
use Rattle.perf_flat.specs.Flat.{present_of}
use Rattle.perf_history.specs.declared.changes.Change.{Change}
use Rattle.perf_records.specs.Answers.{FrameParts, answer_of_frame, split_of_frame}
use Rattle.perf_records.specs.Records.{RecordValue, mmap_is, lost_is, comm_is, exit_is, fork_is, mmap2_is}
use Rattle.perf_records.specs.Records.{switch_is, switch_cpu_wide_is, namespaces_is, ksymbol_is, bpf_event_is, cgroup_is}
use Rattle.perf_sample_types.specs.SampleId.{SampleIdValue}
use Rattle.perf_types.specs.Mmap.{MmapValue}
use Rattle.perf_types.specs.Mmap2.{Mmap2Value}
use Rattle.perf_types.specs.MmapDetail.{DetailValue, maj_of, min_of, ino_of, ino_generation_of, build_id_of}
use Rattle.perf_types.specs.SwitchCpuWide.{other_pid, other_tid}
use Rattle.perf_walk.specs.Changes.{or_empty}
use Rattle.perf_words.specs.Bits.{has_bit}
use Rattle.perf_script.specs.Heads.{is_chained, line_with}
use Rattle.perf_script.specs.NamespaceText.{namespaces_text}
use Rattle.perf_columns.specs.RecordText as text
use Rattle.perf_script.specs.declared.fields.Fields.{Fields}
use Rattle.perf_script.specs.declared.heads.Head.{Head}

-- the thread that a line names: that which the record is about, or that in which it was written; None
-- for records that have no line
abbrev pub named_in : SampleIdValue → RecordValue → Option ℕ
named_in ids (mmap_is r) = Some (low_u32 r.tid)
named_in ids (lost_is r) = Some (or_zero ids.tid)
named_in ids (comm_is r) = Some (low_u32 r.tid)
named_in ids (exit_is r) = Some (low_u32 r.tid)
named_in ids (fork_is r) = Some (text.forked (low_u32 r.tid) (low_u32 r.ptid))
named_in ids (mmap2_is r) = Some (low_u32 r.tid)
named_in ids switch_is = Some (or_zero ids.tid)
named_in ids (switch_cpu_wide_is r) = Some (or_zero ids.tid)
named_in ids (namespaces_is r) = Some (low_u32 r.tid)
named_in ids (ksymbol_is r) = Some (or_zero ids.tid)
named_in ids (bpf_event_is r) = Some (or_zero ids.tid)
named_in ids (cgroup_is r) = Some (or_zero ids.tid)
named_in ids _ = None

-- which file an MMAP2 mapped: by its build id if bit 14 of misc is set, else by its inode
abbrev pub identity_text : (misc : ℕ) → DetailValue → List ℕ
identity_text misc d =
    if has_bit misc build_id_bit then text.build_id_text (or_empty (build_id_of d))
    else text.inode_text (low_u32 (or_zero (maj_of d))) (low_u32 (or_zero (min_of d))) (or_zero (ino_of d)) (or_zero (ino_generation_of d))

-- an MMAP: of data if bit 13 of misc is set
abbrev pub mmap_line : (misc : ℕ) → MmapValue → List ℕ
mmap_line misc r = text.mmap_text (text.range_text (low_u32 r.pid) (low_u32 r.tid) r.addr r.len r.pgoff) (has_bit misc 13) r.filename

-- an MMAP2
abbrev pub mmap2_line : (misc : ℕ) → Mmap2Value → List ℕ
mmap2_line misc r =
    text.mmap2_text (text.range_text (low_u32 r.pid) (low_u32 r.tid) r.addr r.len r.pgoff ++ identity_text misc r.detail)
    (text.rights_text (low_u32 r.prot) (low_u32 r.flags)) r.filename

-- the text of a record after `PERF_RECORD_`; bit 13 of the misc of a COMM is set as a thread runs a new
-- program
abbrev pub record_text : (misc : ℕ) → RecordValue → List ℕ
record_text misc (mmap_is r) = mmap_line misc r
record_text misc (lost_is r) = text.lost_text r.lost
record_text misc (comm_is r) = text.comm_text (has_bit misc 13) r.comm (low_u32 r.pid) (low_u32 r.tid)
record_text misc (exit_is r) = text.exit_text (low_u32 r.pid) (low_u32 r.tid) (low_u32 r.ppid) (low_u32 r.ptid)
record_text misc (fork_is r) = text.fork_text (low_u32 r.pid) (low_u32 r.tid) (low_u32 r.ppid) (low_u32 r.ptid)
record_text misc (mmap2_is r) = mmap2_line misc r
record_text misc switch_is = text.switch_text misc
record_text misc (switch_cpu_wide_is r) = text.switch_wide_text misc (low_u32 (other_pid r)) (low_u32 (other_tid r))
record_text misc (namespaces_is r) = namespaces_text (low_u32 r.pid) (low_u32 r.tid) r.namespaces
record_text misc (ksymbol_is r) = text.ksymbol_text r.addr r.len r.ksym_type r.flags r.name
record_text misc (bpf_event_is r) = text.bpf_text r.ty r.flags r.id
record_text misc (cgroup_is r) = text.cgroup_text r.id r.path
record_text misc _ = []

-- what the columns of a line are made of: the sample id of the record, of which these fields are there,
-- and whether the samples of its event, which have those fields, have chains
abbrev pub side_head : Fields → (of_event present named : ℕ) → SampleIdValue → Head
side_head chosen of_event present named ids = record {
  chosen = chosen;
  fields = present;
  chained = is_chained chosen of_event;
  named = named;
  pid = or_zero ids.pid;
  tid = or_zero ids.tid;
  cpu = or_zero ids.cpu;
  time = or_zero ids.time;
}

-- the line of a record that names a thread
abbrev pub line_if : Fields → (of_event present : ℕ) → List Change → SampleIdValue → (named : Option ℕ) → (text : List ℕ) → List ℕ
line_if chosen of_event present known ids (Some named) text = line_with known (side_head chosen of_event present named ids) text
line_if chosen of_event present known ids None text = []

-- the line of the record in a frame, if there is one
abbrev pub line_of : Fields → (of_event present misc : ℕ) → List Change → Result FrameParts ErrorKind → Result RecordValue ErrorKind → List ℕ
line_of chosen of_event present misc known (Ok parts) (Ok value) =
    line_if chosen of_event present known parts.metadata.sample_id (named_in parts.metadata.sample_id value) (record_text misc value)
line_of chosen of_event present misc known _ _ = []

-- that of the bytes of a frame
abbrev pub line_at : Fields → (of_event : ℕ) → List Change → Configuration → Order → (frame : List ℕ) → List ℕ
line_at chosen of_event known c o frame =
    line_of chosen of_event (present_of c (header_of o frame).type_) (header_of o frame).misc known (split_of_frame c o frame) (answer_of_frame c o frame)
