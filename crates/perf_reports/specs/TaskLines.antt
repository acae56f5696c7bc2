-- The lines that the program prints, without line feeds.
use Rattle.std.specs.Prelude.{◌≡◌, ◌≤◌, ℕ, zero, suc, Bool, not, ◌&&◌, List, [], ◌∷◌, ◌++◌, ◌==◌}
use Rattle.std.specs.Prelude.{nat_le, if◌then◌else◌, length, take, drop, Option, Some, None, codes, decimal}
use Rattle.std.specs.Prelude.{bit_and, encode_utf8}
use Rattle.std.specs.Int.{is_in_range}
use Rattle.std.specs.List.{All, flat_map, join_by, join_with_byte}
use Rattle.std.specs.Str.{chars}
use Rattle.std.specs.Str.Lossy.{utf8_valid_len, utf8_invalid_len, after_first_chunk}
use Rattle.perf_types.specs.declared.numbers.Exit.{Exit}
use Rattle.perf_types.specs.declared.namespaces.NamespaceEntry.{NamespaceEntry}
use Rattle.perf_types.specs.Comm.{CommValue}
use Rattle.perf_types.specs.Mmap.{MmapValue}
use Rattle.perf_types.specs.Mmap2.{Mmap2Value}
use Rattle.perf_types.specs.MmapDetail.{DetailValue, inode_is, build_id_is}
use Rattle.perf_types.specs.Namespaces.{NamespacesValue}
use Rattle.perf_records.specs.Records.{RecordValue, comm_is, mmap_is, mmap2_is, fork_is, exit_is}
use Rattle.perf_records.specs.Records.{namespaces_is}
use Rattle.perf_text.specs.Numbers.{hex, hex_byte, hex_bytes}

-- ---- words

-- words with a space, 32, between each two
abbrev pub join_words : List (List ℕ) → List ℕ
join_words words = join_with_byte 32 words

-- one letter if a bit is set in a word, and another if it is not
abbrev pub letter : (word bit : ℕ) (set unset : List ℕ) → List ℕ
letter word bit set unset = if bit_and word bit == 0 then unset else set

-- ---- parts of a mapping

-- its address, its length, and its offset in the file
abbrev pub place_words : (addr len pgoff : ℕ) → List ℕ
place_words addr len pgoff = join_words (hex addr ∷ hex len ∷ hex pgoff ∷ [])

-- how its memory may be used: readable, writable, executable, and shared or private
abbrev pub protection : (prot flags : ℕ) → List ℕ
protection prot flags =
    letter prot 1 (codes "r") (codes "-") ++ (letter prot 2 (codes "w") (codes "-")
    ++ (letter prot 4 (codes "x") (codes "-") ++ letter flags 1 (codes "s") (codes "p")))

-- a file by its device, its inode and its generation
abbrev pub inode_words : (maj min ino generation : ℕ) → List ℕ
inode_words maj min ino generation =
    join_words ((hex maj ++ (codes ":" ++ hex min)) ∷ decimal ino ∷ decimal generation ∷ [])

-- the file of a mapping: its inode, or the digits of its build id
abbrev pub file : DetailValue → List ℕ
file (inode_is maj min ino generation) = inode_words maj min ino generation
file (build_id_is id) = hex_bytes id

-- a namespace: the device and the inode of its file
abbrev pub namespace : NamespaceEntry → List ℕ
namespace entry = decimal entry.dev ++ (codes ":" ++ hex entry.inode)

-- ---- names

-- `\x` and the two digits of a byte
abbrev pub escaped_byte : ℕ → List ℕ
escaped_byte byte = codes "\\x" ++ hex_byte byte

-- whether a character of a name stays as it is: every character does but the control characters, which
-- are those below 32 and those from 127 to 159, and the backslash, 92
abbrev pub stays : ℕ → Bool
stays c = nat_le 32 c && (not (c == 92) && not (is_in_range 127 159 c))

-- a character in UTF-8, or each of its bytes escaped
abbrev pub escaped_char : ℕ → List ℕ
escaped_char c = if stays c then encode_utf8 c else flat_map escaped_byte (encode_utf8 c)

-- UTF-8 in which the characters that do not stay are escaped
abbrev pub escaped_text : List ℕ → List ℕ
escaped_text text = flat_map escaped_char (chars text)

-- the longest valid UTF-8 at the start of some bytes
abbrev pub text_in_front : List ℕ → List ℕ
text_in_front bytes = take (utf8_valid_len bytes) bytes

-- the invalid bytes after that part, up to where a character may begin again
abbrev pub invalid_after : List ℕ → List ℕ
invalid_after bytes =
    let left = drop (utf8_valid_len bytes) bytes in take (utf8_invalid_len left) left

-- `escaped`, of at most n parts with the invalid bytes after each
abbrev pub escaped_within : ℕ → List ℕ → List ℕ
escaped_within zero bytes = []
escaped_within (suc most) bytes =
    escaped_text (text_in_front bytes) ++ (flat_map escaped_byte (invalid_after bytes)
    ++ escaped_within most (after_first_chunk bytes))

-- the bytes of a name as text: a byte that is not part of UTF-8 is escaped, and so is each byte of a
-- character that does not stay
abbrev pub escape_name : List ℕ → List ℕ
escape_name bytes = escaped_within (length bytes) bytes

-- no byte of a line is a control character of ASCII: none is below 32, and none is 127
abbrev pub HasNoControl : List ℕ → Type 0
HasNoControl line_about = All (λ byte. (32 ≤ byte) × ¬ (byte ≡ 127)) line_about

-- ---- lines

-- the kind of the line, the task, and the rest of the line
abbrev pub line_about : (what : List ℕ) (pid tid : ℕ) (rest : List ℕ) → List ℕ
line_about what pid tid rest = join_words (what ∷ decimal pid ∷ decimal tid ∷ rest ∷ [])

-- the new name of a task
abbrev pub comm_line : CommValue → List ℕ
comm_line r = line_about (codes "comm") r.pid r.tid (escape_name r.comm)

-- a mapping: its address, and its name
abbrev pub mmap_line : MmapValue → List ℕ
mmap_line r =
    line_about (codes "mmap") r.pid r.tid
    (join_words (place_words r.addr r.len r.pgoff ∷ escape_name r.filename ∷ []))

-- the same, with its file and how its memory may be used
abbrev pub mmap2_line : Mmap2Value → List ℕ
mmap2_line r =
    line_about (codes "mmap2") r.pid r.tid
    (join_words (place_words r.addr r.len r.pgoff ∷ file r.detail ∷ protection r.prot r.flags
    ∷ escape_name r.filename ∷ []))

-- the start or the end of a task, and the task that made it or its parent
abbrev pub task_line : List ℕ → Exit → List ℕ
task_line what r = line_about what r.pid r.tid (join_words (decimal r.ppid ∷ decimal r.ptid ∷ []))

-- the namespaces of a task, separated by commas
abbrev pub namespaces_line : NamespacesValue → List ℕ
namespaces_line r =
    line_about (codes "namespaces") r.pid r.tid (join_by namespace (codes ",") r.namespaces)

-- the line of a record about a task
abbrev pub task_line_of : RecordValue → Option (List ℕ)
task_line_of (comm_is r) = Some (comm_line r)
task_line_of (mmap_is r) = Some (mmap_line r)
task_line_of (mmap2_is r) = Some (mmap2_line r)
task_line_of (fork_is r) = Some (task_line (codes "fork") r)
task_line_of (exit_is r) = Some (task_line (codes "exit") r)
task_line_of (namespaces_is r) = Some (namespaces_line r)
task_line_of _ = None
