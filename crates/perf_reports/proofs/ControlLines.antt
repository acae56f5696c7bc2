-- No line about a task has a control character.
use Rattle.std.proofs.Common.{ℕ, false, List, [], ◌∷◌, ◌++◌, ◌==◌, refl, codes, decimal, unwrap_or, bit_and}
use Rattle.std.specs.Fmt.{digits}
use Rattle.std.specs.List.{flat_map, join_by}
use Rattle.perf_types.specs.declared.numbers.Exit.{Exit}
use Rattle.perf_types.specs.declared.namespaces.NamespaceEntry.{NamespaceEntry}
use Rattle.perf_types.specs.Mmap2.{Mmap2Value}
use Rattle.perf_types.specs.MmapDetail.{DetailValue, inode_is, build_id_is}
use Rattle.perf_records.specs.Records.{RecordValue, comm_is, mmap_is, mmap2_is, fork_is, exit_is, namespaces_is}
use Rattle.perf_reports.specs.TaskLines.{HasNoControl, letter, place_words, protection, file, namespace, escape_name, line_about, task_line, mmap2_line, task_line_of}
use Rattle.perf_text.specs.Numbers.{hex, hex_byte}
use Rattle.perf_reports.proofs.Control.{Clean, no_control, clean_joined, clean_each, clean_decimal, clean_digits, clean_hex_byte, clean_escaped}
use Rattle.perf_reports.proofs.Escaped.{picked}

spaced_clean : (word rest : List ℕ) → Clean word → Clean rest → Clean (word ++ 32 ∷ rest)
spaced_clean word rest p q = clean_joined word (32 ∷ rest) p q

hex_clean : (n : ℕ) → Clean (hex n)
hex_clean n = clean_joined (codes "0x") (digits 16 false n) refl (clean_digits n)

letter_clean : (word bit : ℕ) (set unset : List ℕ) → Clean set → Clean unset → Clean (letter word bit set unset)
letter_clean word bit set unset p q = picked Clean (bit_and word bit == 0) unset set q p

place_clean : (addr len pgoff : ℕ) → Clean (place_words addr len pgoff)
place_clean addr len pgoff = spaced_clean (hex addr) (hex len ++ (32 ∷ hex pgoff)) (hex_clean addr) (spaced_clean (hex len) (hex pgoff) (hex_clean len) (hex_clean pgoff))

protection_clean : (prot flags : ℕ) → Clean (protection prot flags)
protection_clean prot flags =
    let shared : List ℕ = letter flags 1 (codes "s") (codes "p") in
    let execute : List ℕ = letter prot 4 (codes "x") (codes "-") in
    let write : List ℕ = letter prot 2 (codes "w") (codes "-") in
    clean_joined (letter prot 1 (codes "r") (codes "-")) (write ++ (execute ++ shared)) (letter_clean prot 1 (codes "r") (codes "-") refl refl)
    (clean_joined write (execute ++ shared) (letter_clean prot 2 (codes "w") (codes "-") refl refl)
    (clean_joined execute shared (letter_clean prot 4 (codes "x") (codes "-") refl refl) (letter_clean flags 1 (codes "s") (codes "p") refl refl)))

file_clean : (d : DetailValue) → Clean (file d)
file_clean (inode_is maj min ino generation) =
    spaced_clean (hex maj ++ (codes ":" ++ hex min)) (decimal ino ++ (32 ∷ decimal generation))
    (clean_joined (hex maj) (codes ":" ++ hex min) (hex_clean maj) (clean_joined (codes ":") (hex min) refl (hex_clean min)))
    (spaced_clean (decimal ino) (decimal generation) (clean_decimal ino) (clean_decimal generation))
file_clean (build_id_is id) = clean_each hex_byte id clean_hex_byte

namespace_clean : (entry : NamespaceEntry) → Clean (namespace entry)
namespace_clean entry = clean_joined (decimal entry.dev) (codes ":" ++ hex entry.inode) (clean_decimal entry.dev) (clean_joined (codes ":") (hex entry.inode) refl (hex_clean entry.inode))

listed_clean : (entries : List NamespaceEntry) → Clean (join_by namespace (codes ",") entries)
listed_clean [] = refl
listed_clean (entry ∷ others) =
    clean_joined (namespace entry) (flat_map (λ other. codes "," ++ namespace other) others) (namespace_clean entry)
    (clean_each (λ other. codes "," ++ namespace other) others (λ other. clean_joined (codes ",") (namespace other) refl (namespace_clean other)))

line_clean : (what : List ℕ) (pid tid : ℕ) (says : List ℕ) → Clean what → Clean says → Clean (line_about what pid tid says)
line_clean what pid tid says p q =
    spaced_clean what (decimal pid ++ (32 ∷ (decimal tid ++ (32 ∷ says)))) p
    (spaced_clean (decimal pid) (decimal tid ++ (32 ∷ says)) (clean_decimal pid) (spaced_clean (decimal tid) says (clean_decimal tid) q))

task_clean : (what : List ℕ) (r : Exit) → Clean what → Clean (task_line what r)
task_clean what r p = line_clean what r.pid r.tid (decimal r.ppid ++ (32 ∷ decimal r.ptid)) p (spaced_clean (decimal r.ppid) (decimal r.ptid) (clean_decimal r.ppid) (clean_decimal r.ptid))

mmap2_clean : (r : Mmap2Value) → Clean (mmap2_line r)
mmap2_clean r =
    let name : List ℕ = escape_name r.filename in
    let used : List ℕ = protection r.prot r.flags in
    line_clean (codes "mmap2") r.pid r.tid (place_words r.addr r.len r.pgoff ++ (32 ∷ (file r.detail ++ (32 ∷ (used ++ (32 ∷ name)))))) refl
    (spaced_clean (place_words r.addr r.len r.pgoff) (file r.detail ++ (32 ∷ (used ++ (32 ∷ name)))) (place_clean r.addr r.len r.pgoff)
    (spaced_clean (file r.detail) (used ++ (32 ∷ name)) (file_clean r.detail) (spaced_clean used name (protection_clean r.prot r.flags) (clean_escaped r.filename))))

line_of_clean : (r : RecordValue) → Clean (unwrap_or (task_line_of r) [])
line_of_clean (comm_is r) = line_clean (codes "comm") r.pid r.tid (escape_name r.comm) refl (clean_escaped r.comm)
line_of_clean (mmap_is r) =
    line_clean (codes "mmap") r.pid r.tid (place_words r.addr r.len r.pgoff ++ (32 ∷ escape_name r.filename)) refl
    (spaced_clean (place_words r.addr r.len r.pgoff) (escape_name r.filename) (place_clean r.addr r.len r.pgoff) (clean_escaped r.filename))
line_of_clean (mmap2_is r) = mmap2_clean r
line_of_clean (fork_is r) = task_clean (codes "fork") r refl
line_of_clean (exit_is r) = task_clean (codes "exit") r refl
line_of_clean (namespaces_is r) = line_clean (codes "namespaces") r.pid r.tid (join_by namespace (codes ",") r.namespaces) refl (listed_clean r.namespaces)
line_of_clean _ = refl

pub line_has_no_control : (r : RecordValue) → HasNoControl (unwrap_or (task_line_of r) [])
line_has_no_control r = no_control (unwrap_or (task_line_of r) []) (line_of_clean r)
