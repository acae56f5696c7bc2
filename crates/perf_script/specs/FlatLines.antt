-- The lines of records by their flat frames.
use Rattle.std.specs.Prelude.{ℕ, zero, suc, ◌/◌, ◌==◌, ◌||◌, List, [], ◌∷◌, ◌++◌, drop, get_or, length, take, Option, Some, None, if◌then◌else◌}
use Rattle.perf_base.specs.Order.{Order}
use Rattle.perf_flat.specs.Arrays.{low_u32}
use Rattle.perf_flat.specs.Strings.{span_at}
use Rattle.perf_flat.specs.declared.frame.FlatFrame.{FlatFrame}
use Rattle.perf_history.specs.declared.changes.Change.{Change}
use Rattle.perf_types.specs.declared.namespaces.NamespaceEntry.{NamespaceEntry}
use Rattle.perf_walk.specs.Parts.{bytes_at}
use Rattle.perf_words.specs.Bits.{has_bit}
use Rattle.perf_script.specs.Heads.{is_chained, line_with}
use Rattle.perf_script.specs.NamespaceText.{namespaces_text}
use Rattle.perf_columns.specs.RecordText as text
use Rattle.perf_script.specs.declared.fields.Fields.{Fields}
use Rattle.perf_script.specs.declared.heads.Head.{Head}

-- one of its numbers
abbrev pub number : List ℕ → ℕ → ℕ
number numbers n = get_or numbers n 0

-- the same in 32 bits
abbrev pub short_number : List ℕ → ℕ → ℕ
short_number numbers n = low_u32 (get_or numbers n 0)

-- the thread that a line names, by the type, the numbers, and the thread of the sample id
abbrev pub named_by : (read : ℕ) → (numbers : List ℕ) → (tid : ℕ) → Option ℕ
named_by read numbers tid =
    if read == 1 || (read == 3 || (read == 10 || read == 16)) then Some (short_number numbers 1)
    else if read == 4 then Some (short_number numbers 2)
    else if read == 7 then Some (text.forked (short_number numbers 2) (short_number numbers 3))
    else if read == 2 || (read == 14 || (read == 15 || (read == 17 || (read == 18 || read == 19)))) then Some tid
    else None

-- what was mapped
abbrev pub range_by : List ℕ → List ℕ
range_by numbers = text.range_text (short_number numbers 0) (short_number numbers 1) (number numbers 2) (number numbers 3) (number numbers 4)

-- which file was mapped
abbrev pub identity_by : (misc : ℕ) → (numbers id : List ℕ) → List ℕ
identity_by misc numbers id =
    if has_bit misc 14 then text.build_id_text id
    else text.inode_text (short_number numbers 7) (short_number numbers 8) (number numbers 9) (number numbers 10)

-- an MMAP
abbrev pub mmap_by : (misc : ℕ) → (numbers path : List ℕ) → List ℕ
mmap_by misc numbers path = text.mmap_text (range_by numbers) (has_bit misc 13) path

-- how the memory of an MMAP2 may be used
abbrev pub rights_by : (numbers : List ℕ) → List ℕ
rights_by numbers = text.rights_text (short_number numbers 5) (short_number numbers 6)

-- an MMAP2
abbrev pub mmap2_by : (misc : ℕ) → (numbers path id : List ℕ) → List ℕ
mmap2_by misc numbers path id = text.mmap2_text (range_by numbers ++ identity_by misc numbers id) (rights_by numbers) path

-- namespaces at the front of bytes, so many: the device and the inode of each
abbrev pub namespaces_at : Order → (count : ℕ) → List ℕ → List NamespaceEntry
namespaces_at o zero bytes = []
namespaces_at o (suc count) bytes = record { dev = o.eight (take 8 bytes); inode = o.eight (take 8 (drop 8 bytes)) } ∷ namespaces_at o count (drop 16 bytes)

-- all that bytes have
abbrev pub namespaces_in : Order → List ℕ → List NamespaceEntry
namespaces_in o bytes = namespaces_at o (length bytes / 16) bytes

-- the text of a record, by its type, its numbers and its byte strings, of which the first may be a list
abbrev pub record_by : Order → (read misc : ℕ) → (numbers first second : List ℕ) → List ℕ
record_by o read misc numbers first second =
    if read == 1 then mmap_by misc numbers first
    else if read == 2 then text.lost_text (number numbers 1)
    else if read == 3 then text.comm_text (has_bit misc 13) first (short_number numbers 0) (short_number numbers 1)
    else if read == 4 then text.exit_text (short_number numbers 0) (short_number numbers 2) (short_number numbers 1) (short_number numbers 3)
    else if read == 7 then text.fork_text (short_number numbers 0) (short_number numbers 2) (short_number numbers 1) (short_number numbers 3)
    else if read == 10 then mmap2_by misc numbers first second
    else if read == 14 then text.switch_text misc
    else if read == 15 then text.switch_wide_text misc (short_number numbers 0) (short_number numbers 1)
    else if read == 16 then namespaces_text (short_number numbers 0) (short_number numbers 1) (namespaces_in o first)
    else if read == 17 then text.ksymbol_text (number numbers 0) (number numbers 1) (number numbers 2) (number numbers 3) first
    else if read == 18 then text.bpf_text (number numbers 0) (number numbers 1) (number numbers 2)
    else if read == 19 then text.cgroup_text (number numbers 0) first
    else []

-- one of its byte strings
abbrev pub string_at : List ℕ → FlatFrame → ℕ → List ℕ
string_at bytes f n = bytes_at bytes (span_at f.spans n)

-- the text of the record of a flat frame
abbrev pub record_in : Order → List ℕ → FlatFrame → List ℕ
record_in o bytes f = record_by o f.read f.misc f.numbers (string_at bytes f 0) (string_at bytes f 1)

-- what the columns of its line are made of
abbrev pub head_by : Fields → (of_event named : ℕ) → FlatFrame → Head
head_by chosen of_event named f = record {
  chosen = chosen;
  fields = f.present;
  chained = is_chained chosen of_event;
  named = named;
  pid = f.pid;
  tid = f.tid;
  cpu = f.cpu;
  time = f.time;
}

-- its line, if it names a thread
abbrev pub line_by : Fields → (of_event : ℕ) → List Change → Order → List ℕ → FlatFrame → (named : Option ℕ) → List ℕ
line_by chosen of_event known o bytes f (Some named) = line_with known (head_by chosen of_event named f) (record_in o bytes f)
line_by chosen of_event known o bytes f None = []
