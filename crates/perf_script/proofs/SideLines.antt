-- The line of a record, by its flat frame.
use Rattle.std.proofs.Common.{◌≡◌, ℕ, List, ◌++◌, codes, map, refl, sym, ◌∙◌, ap}
use Rattle.std.specs.Prelude.{Option, Some, None, Result, Ok, Err}
use Rattle.perf_base.specs.Attribute.{or_zero}
use Rattle.perf_base.specs.Configuration.{Configuration, under_misc}
use Rattle.perf_base.specs.Header.{header_of}
use Rattle.perf_base.specs.Order.{Order}
use Rattle.perf_base.specs.declared.error.ErrorKind.{ErrorKind}
use Rattle.perf_flat.specs.Arrays.{filled, low_u32}
use Rattle.perf_flat.specs.Flat.{IsFlat, StatesAnswer, StatesId, StatesRecord, ids_of, present_of, read_type}
use Rattle.perf_flat.specs.RecordNumbers.{numbers_of}
use Rattle.perf_flat.specs.Strings.{span_at}
use Rattle.perf_flat.specs.declared.frame.FlatFrame.{FlatFrame}
use Rattle.perf_history.specs.declared.changes.Change.{Change}
use Rattle.perf_records.specs.Answers.{FrameParts, answer_of_frame, split_of_frame}
use Rattle.perf_records.specs.Records.{RecordValue, mmap_is, lost_is, comm_is, exit_is, fork_is, mmap2_is, sample_is}
use Rattle.perf_records.specs.Records.{switch_is, switch_cpu_wide_is, namespaces_is, ksymbol_is, bpf_event_is, cgroup_is}
use Rattle.perf_sample_types.specs.SampleId.{SampleIdValue}
use Rattle.perf_types.specs.MmapDetail.{build_id_of}
use Rattle.perf_types.specs.declared.switch_cpu_wide.SwitchCpuWide.TheVariants as switch
use Rattle.perf_walk.specs.Changes.{or_empty}
use Rattle.perf_walk.specs.Plain.{plain}
use Rattle.perf_walk.proofs.Stated.{bytes_here, flat_record, string_here}
use Rattle.perf_walk.proofs.Values.{answer_value, body_kind, kind_of}
use Rattle.perf_script.specs.FlatLines.{head_by, line_by, named_by, record_by, record_in, string_at}
use Rattle.perf_script.specs.Heads.{is_chained, line_with}
use Rattle.perf_script.specs.NamespaceText.{namespaces_text}
use Rattle.perf_script.specs.SideBand.{line_at, line_if, line_of, named_in, record_text, side_head}
use Rattle.perf_script.specs.declared.fields.Fields.{Fields}
use Rattle.perf_script.specs.declared.heads.Head.{Head}
use Rattle.perf_script.proofs.NamespaceLists.{namespaces_here}
use Rattle.perf_script.proofs.PlainText.{head_same}

-- the type that was read is that of the record
kind_read : (c : Configuration) (o : Order) (frame : List ℕ) (v : RecordValue) (f : FlatFrame) → IsFlat c o frame f → answer_of_frame c o frame ≡ Ok v → f.read ≡ kind_of v
kind_read c o frame v f is e =
    let h = header_of o frame in
    let found = answer_value c o frame v e in
    (flat_record c o frame v f is e).1.0.read ∙ ap read_type is.header.type_ ∙ sym (body_kind (under_misc h.misc c) o found.0 h.type_) ∙ ap kind_of (sym found.1)

-- ---- its text

moved : (o : Order) (n m misc : ℕ) (ns ms a b c d : List ℕ) → n ≡ m → ns ≡ ms → a ≡ b → c ≡ d → record_by o n misc ns a c ≡ record_by o m misc ms b d
moved o n m misc ns ms a b c d w x y z = ap (λ k. record_by o k misc ns a c) w ∙ ap (λ ks. record_by o m misc ks a c) x ∙ ap (λ s. record_by o m misc ms s c) y ∙ ap (λ s. record_by o m misc ms b s) z

text_same : (c : Configuration) (o : Order) (frame : List ℕ) (ids : SampleIdValue) (v : RecordValue) (f : FlatFrame) → f.read ≡ kind_of v → StatesRecord c o frame ids v f → record_in o frame f ≡ record_text f.misc v
unfolding filled
text_same c o frame ids (mmap_is r) f read s =
    moved o f.read 1 f.misc f.numbers (filled (numbers_of (mmap_is r))) (string_at frame f 0) r.filename (string_at frame f 1) (string_at frame f 1)
    read s.0.numbers (bytes_here frame (span_at f.spans 0) r.filename s.1.0) refl
text_same c o frame ids (lost_is r) f read s =
    moved o f.read 2 f.misc f.numbers (filled (numbers_of (lost_is r))) (string_at frame f 0) (string_at frame f 0) (string_at frame f 1) (string_at frame f 1) read s.0.numbers refl refl
text_same c o frame ids (comm_is r) f read s =
    moved o f.read 3 f.misc f.numbers (filled (numbers_of (comm_is r))) (string_at frame f 0) r.comm (string_at frame f 1) (string_at frame f 1)
    read s.0.numbers (bytes_here frame (span_at f.spans 0) r.comm s.1.0) refl
text_same c o frame ids (exit_is r) f read s =
    moved o f.read 4 f.misc f.numbers (filled (numbers_of (exit_is r))) (string_at frame f 0) (string_at frame f 0) (string_at frame f 1) (string_at frame f 1) read s.0.numbers refl refl
text_same c o frame ids (fork_is r) f read s =
    moved o f.read 7 f.misc f.numbers (filled (numbers_of (fork_is r))) (string_at frame f 0) (string_at frame f 0) (string_at frame f 1) (string_at frame f 1) read s.0.numbers refl refl
text_same c o frame ids (mmap2_is r) f read s =
    moved o f.read 10 f.misc f.numbers (filled (numbers_of (mmap2_is r))) (string_at frame f 0) r.filename (string_at frame f 1) (or_empty (build_id_of r.detail))
    read s.0.numbers (bytes_here frame (span_at f.spans 0) r.filename s.1.0) (string_here frame f.spans 1 (build_id_of r.detail) s.1.1)
text_same c o frame ids switch_is f read s = ap (λ n. record_by o n f.misc f.numbers (string_at frame f 0) (string_at frame f 1)) read
text_same c o frame ids (switch_cpu_wide_is (switch.In pid tid)) f read s =
    moved o f.read 15 f.misc f.numbers (filled (numbers_of (switch_cpu_wide_is (switch.In pid tid)))) (string_at frame f 0) (string_at frame f 0) (string_at frame f 1) (string_at frame f 1) read s.0.numbers refl refl
text_same c o frame ids (switch_cpu_wide_is (switch.Out pid tid)) f read s =
    moved o f.read 15 f.misc f.numbers (filled (numbers_of (switch_cpu_wide_is (switch.Out pid tid)))) (string_at frame f 0) (string_at frame f 0) (string_at frame f 1) (string_at frame f 1) read s.0.numbers refl refl
text_same c o frame ids (namespaces_is r) f read s =
    moved o f.read 16 f.misc f.numbers (filled (numbers_of (namespaces_is r))) (string_at frame f 0) (string_at frame f 0) (string_at frame f 1) (string_at frame f 1) read s.0.numbers refl refl
    ∙ ap (namespaces_text (low_u32 r.pid) (low_u32 r.tid)) (namespaces_here o frame (span_at f.spans 0) r.namespaces s.1.0)
text_same c o frame ids (ksymbol_is r) f read s =
    moved o f.read 17 f.misc f.numbers (filled (numbers_of (ksymbol_is r))) (string_at frame f 0) r.name (string_at frame f 1) (string_at frame f 1)
    read s.0.numbers (bytes_here frame (span_at f.spans 0) r.name s.1.0) refl
text_same c o frame ids (bpf_event_is r) f read s =
    moved o f.read 18 f.misc f.numbers (filled (numbers_of (bpf_event_is r))) (string_at frame f 0) (string_at frame f 0) (string_at frame f 1) (string_at frame f 1) read s.0.numbers refl refl
text_same c o frame ids (cgroup_is r) f read s =
    moved o f.read 19 f.misc f.numbers (filled (numbers_of (cgroup_is r))) (string_at frame f 0) r.path (string_at frame f 1) (string_at frame f 1)
    read s.0.numbers (bytes_here frame (span_at f.spans 0) r.path s.1.0) refl
text_same c o frame ids _ f read s = ap (λ n. record_by o n f.misc f.numbers (string_at frame f 0) (string_at frame f 1)) read

-- ---- the thread that it names

named_moved : (n m : ℕ) (ns ms : List ℕ) (t u : ℕ) → n ≡ m → ns ≡ ms → t ≡ u → named_by n ns t ≡ named_by m ms u
named_moved n m ns ms t u x y z = ap (λ k. named_by k ns t) x ∙ ap (λ ks. named_by m ks t) y ∙ ap (named_by m ms) z

named_same : (c : Configuration) (o : Order) (frame : List ℕ) (ids : SampleIdValue) (v : RecordValue) (f : FlatFrame) → f.read ≡ kind_of v → StatesRecord c o frame ids v f → named_by f.read f.numbers f.tid ≡ named_in ids v
unfolding filled
named_same c o frame ids (mmap_is r) f read s = named_moved f.read 1 f.numbers (filled (numbers_of (mmap_is r))) f.tid f.tid read s.0.numbers refl
named_same c o frame ids (comm_is r) f read s = named_moved f.read 3 f.numbers (filled (numbers_of (comm_is r))) f.tid f.tid read s.0.numbers refl
named_same c o frame ids (mmap2_is r) f read s = named_moved f.read 10 f.numbers (filled (numbers_of (mmap2_is r))) f.tid f.tid read s.0.numbers refl
named_same c o frame ids (namespaces_is r) f read s = named_moved f.read 16 f.numbers (filled (numbers_of (namespaces_is r))) f.tid f.tid read s.0.numbers refl
named_same c o frame ids (exit_is r) f read s = named_moved f.read 4 f.numbers (filled (numbers_of (exit_is r))) f.tid f.tid read s.0.numbers refl
named_same c o frame ids (fork_is r) f read s = named_moved f.read 7 f.numbers (filled (numbers_of (fork_is r))) f.tid f.tid read s.0.numbers refl
named_same c o frame ids (lost_is r) f read s = named_moved f.read 2 f.numbers f.numbers f.tid (or_zero ids.tid) read refl s.0.id.tid
named_same c o frame ids switch_is f read s = named_moved f.read 14 f.numbers f.numbers f.tid (or_zero ids.tid) read refl s.0.id.tid
named_same c o frame ids (switch_cpu_wide_is r) f read s = named_moved f.read 15 f.numbers f.numbers f.tid (or_zero ids.tid) read refl s.0.id.tid
named_same c o frame ids (ksymbol_is r) f read s = named_moved f.read 17 f.numbers f.numbers f.tid (or_zero ids.tid) read refl s.0.id.tid
named_same c o frame ids (bpf_event_is r) f read s = named_moved f.read 18 f.numbers f.numbers f.tid (or_zero ids.tid) read refl s.0.id.tid
named_same c o frame ids (cgroup_is r) f read s = named_moved f.read 19 f.numbers f.numbers f.tid (or_zero ids.tid) read refl s.0.id.tid
named_same c o frame ids _ f read s = ap (λ n. named_by n f.numbers f.tid) read

-- ---- its columns

-- a record that names a thread is no sample
ids_kept : (ids : SampleIdValue) (v : RecordValue) (f : FlatFrame) (named : ℕ) → StatesId (ids_of ids v) f → named_in ids v ≡ Some named → StatesId ids f
ids_kept ids (sample_is s) f named states e = absurd (cc)
ids_kept ids _ f named states e = states

abbrev head_made : Fields → (of_event present named pid tid cpu time : ℕ) → Head
head_made chosen of_event present named pid tid cpu time = record {
  chosen = chosen;
  fields = present;
  chained = is_chained chosen of_event;
  named = named;
  pid = pid;
  tid = tid;
  cpu = cpu;
  time = time;
}

head_is : (chosen : Fields) (of_event present named : ℕ) (ids : SampleIdValue) (f : FlatFrame) → f.present ≡ present → StatesId ids f → head_by chosen of_event named f ≡ side_head chosen of_event present named ids
head_is chosen of_event present named ids f there s =
    ap (λ n. head_made chosen of_event n named f.pid f.tid f.cpu f.time) there
    ∙ ap (λ n. head_made chosen of_event present named n f.tid f.cpu f.time) s.pid
    ∙ ap (λ n. head_made chosen of_event present named (or_zero ids.pid) n f.cpu f.time) s.tid
    ∙ ap (λ n. head_made chosen of_event present named (or_zero ids.pid) (or_zero ids.tid) n f.time) s.cpu
    ∙ ap (head_made chosen of_event present named (or_zero ids.pid) (or_zero ids.tid) (or_zero ids.cpu)) s.time

-- ---- the line

line_value : (chosen : Fields) (of_event present misc : ℕ) (changes : List Change) (c : Configuration) (o : Order) (frame : List ℕ) (ids : SampleIdValue) (v : RecordValue) (f : FlatFrame)
    → f.read ≡ kind_of v → f.present ≡ present → f.misc ≡ misc → StatesRecord c o frame ids v f
    → line_by chosen of_event changes o frame f (named_by f.read f.numbers f.tid) ≡ line_if chosen of_event present (map plain changes) ids (named_in ids v) (record_text misc v)
line_value chosen of_event present misc changes c o frame ids v f read there header s =
    ap (line_by chosen of_event changes o frame f) (named_same c o frame ids v f read s) ∙ go (named_in ids v) refl where
      go : (named : Option ℕ) → named_in ids v ≡ named → line_by chosen of_event changes o frame f named ≡ line_if chosen of_event present (map plain changes) ids named (record_text misc v)
      go None e = refl
      go (Some named) e =
          ap (line_with changes (head_by chosen of_event named f)) (text_same c o frame ids v f read s ∙ ap (λ m. record_text m v) header)
          ∙ ap (λ (h : Head). line_with changes h (record_text misc v)) (head_is chosen of_event present named ids f there (ids_kept ids v f named s.0.id e))
          ∙ ap (λ columns. columns ++ (codes "PERF_RECORD_" ++ record_text misc v)) (sym (head_same changes (side_head chosen of_event present named ids)))

line_parts : (chosen : Fields) (of_event present misc : ℕ) (changes : List Change) (c : Configuration) (o : Order) (frame : List ℕ) (split : Result FrameParts ErrorKind) (a : Result RecordValue ErrorKind) (f : FlatFrame)
    → ((v : RecordValue) → a ≡ Ok v → f.read ≡ kind_of v) → ((ids : SampleIdValue) (v : RecordValue) → StatesRecord c o frame ids v f → f.present ≡ present) → f.misc ≡ misc → StatesAnswer c o frame split a f
    → line_by chosen of_event changes o frame f (named_by f.read f.numbers f.tid) ≡ line_of chosen of_event present misc (map plain changes) split a
line_parts chosen of_event present misc changes c o frame (Ok parts) (Ok v) f read there header states =
    line_value chosen of_event present misc changes c o frame parts.metadata.sample_id v f (read v refl) (there parts.metadata.sample_id v states) header states
line_parts chosen of_event present misc changes c o frame (Err e) (Ok v) f read there header states = absurd states
line_parts chosen of_event present misc changes c o frame (Ok parts) (Err e) f read there header states =
    ap (λ (g : FlatFrame). line_by chosen of_event changes o frame g (named_by g.read g.numbers g.tid)) states.is
line_parts chosen of_event present misc changes c o frame (Err d) (Err e) f read there header states =
    ap (λ (g : FlatFrame). line_by chosen of_event changes o frame g (named_by g.read g.numbers g.tid)) states.is

-- the line of a flat frame is that of the bytes of the frame
pub line_same : (chosen : Fields) (of_event : ℕ) (changes : List Change) (c : Configuration) (o : Order) (frame : List ℕ) (f : FlatFrame) → IsFlat c o frame f
    → line_by chosen of_event changes o frame f (named_by f.read f.numbers f.tid) ≡ line_at chosen of_event (map plain changes) c o frame
line_same chosen of_event changes c o frame f is =
    line_parts chosen of_event (present_of c (header_of o frame).type_) (header_of o frame).misc changes c o frame (split_of_frame c o frame) (answer_of_frame c o frame) f
    (λ v e. kind_read c o frame v f is e) (λ ids v states. states.0.present ∙ ap (present_of c) is.header.type_) is.header.misc is.answer
