-- The text of records that are no samples, after the columns of their lines and `PERF_RECORD_`.
use Rattle.std.specs.Prelude.{ℕ, ◌==◌, false, not, Bool, List, ◌++◌, codes, decimal, if◌then◌else◌}
use Rattle.std.specs.Fmt.{digits}
use Rattle.std.specs.List.{flat_map}
use Rattle.perf_text.specs.Numbers.{hex, hex_byte}
use Rattle.perf_words.specs.Bits.{has_bit}
use Rattle.perf_columns.specs.Columns.{hex_number, signed, task_pair, zeros}

-- two numbers with a mark between them
abbrev pub pair : (mark : List ℕ) → (first second : ℕ) → List ℕ
pair mark first second = signed first ++ (mark ++ signed second)

-- a thread at the end of a line
abbrev pub thread_text : (pid tid : ℕ) → List ℕ
thread_text pid tid = codes ":" ++ (pair (codes "/") pid tid ++ codes "\n")

-- a COMM: whether the thread runs a new program, its name, and the thread
abbrev pub comm_text : (exec : Bool) → (name : List ℕ) → (pid tid : ℕ) → List ℕ
comm_text exec name pid tid = (if exec then codes "COMM exec: " else codes "COMM: ") ++ (name ++ thread_text pid tid)

-- a thread and its parent
abbrev pub task_text : (pid tid ppid ptid : ℕ) → List ℕ
task_text pid tid ppid ptid = codes "(" ++ (pair (codes ":") pid tid ++ (codes "):(" ++ (pair (codes ":") ppid ptid ++ codes ")\n")))

-- the thread whose name the line of a FORK has: the new one, or thread 0 if that is its parent, which has
-- a name that it hands on, though no record gives it
abbrev pub forked : (tid ptid : ℕ) → ℕ
forked tid ptid = if ptid == 0 then 0 else tid

-- a FORK
abbrev pub fork_text : (pid tid ppid ptid : ℕ) → List ℕ
fork_text pid tid ppid ptid = codes "FORK" ++ task_text pid tid ppid ptid

-- an EXIT
abbrev pub exit_text : (pid tid ppid ptid : ℕ) → List ℕ
exit_text pid tid ppid ptid = codes "EXIT" ++ task_text pid tid ppid ptid

-- what was mapped by a thread, where, and from which offset on
abbrev pub range_text : (pid tid start len offset : ℕ) → List ℕ
range_text pid tid start len offset =
    codes " " ++ (pair (codes "/") pid tid ++ (codes ": [" ++ (hex_number start ++ (codes "(" ++ (hex_number len ++ (codes ") @ " ++ hex_number offset))))))

-- a path at the end of a line
abbrev pub path_text : (path : List ℕ) → List ℕ
path_text path = codes " " ++ (path ++ codes "\n")

-- an MMAP: what was mapped, data or code, and the path
abbrev pub mmap_text : (range : List ℕ) → (is_data : Bool) → (path : List ℕ) → List ℕ
mmap_text range is_data path = codes "MMAP" ++ (range ++ ((if is_data then codes "]: r" else codes "]: x") ++ path_text path))

-- a number in two hexadecimal digits or more
abbrev pub device_text : ℕ → List ℕ
device_text n = zeros 2 (digits 16 false n)

-- the inode of a file
abbrev pub inode_text : (major minor number generation : ℕ) → List ℕ
inode_text major minor number generation =
    codes " " ++ (device_text major ++ (codes ":" ++ (device_text minor ++ (codes " " ++ (decimal number ++ (codes " " ++ decimal generation))))))

-- the build id of a file
abbrev pub build_id_text : (id : List ℕ) → List ℕ
build_id_text id = codes " <" ++ (flat_map hex_byte id ++ codes ">")

-- how memory may be used, by the protection and the flags of mmap(2): read, written, run, and shared
abbrev pub rights_text : (prot flags : ℕ) → List ℕ
rights_text prot flags =
    (if has_bit prot 0 then codes "r" else codes "-") ++ ((if has_bit prot 1 then codes "w" else codes "-")
    ++ ((if has_bit prot 2 then codes "x" else codes "-") ++ (if has_bit flags 0 then codes "s" else codes "p")))

-- how memory may be used, and the path
abbrev pub use_text : (rights path : List ℕ) → List ℕ
use_text rights path = codes "]: " ++ (rights ++ path_text path)

-- an MMAP2: what was mapped, and so on
abbrev pub mmap2_text : (mapped rights path : List ℕ) → List ℕ
mmap2_text mapped rights path = codes "MMAP2" ++ (mapped ++ use_text rights path)

-- a LOST: how many records
abbrev pub lost_text : ℕ → List ℕ
lost_text lost = codes "LOST lost " ++ (decimal lost ++ codes "\n")

-- where a switch went, by bits 13 and 14 of misc: to the task, or from it, though it could run on
abbrev pub direction : (misc : ℕ) → List ℕ
direction misc = if not (has_bit misc 13) then codes "IN         " else if has_bit misc 14 then codes "OUT preempt" else codes "OUT        "

-- a SWITCH
abbrev pub switch_text : (misc : ℕ) → List ℕ
switch_text misc = codes "SWITCH " ++ (direction misc ++ codes "\n")

-- what the other task of a switch is: the next one, or the one before
abbrev pub other_text : (misc : ℕ) → List ℕ
other_text misc = if has_bit misc 13 then codes "  next pid/tid: " else codes "  prev pid/tid: "

-- a SWITCH_CPU_WIDE, with the other task
abbrev pub switch_wide_text : (misc pid tid : ℕ) → List ℕ
switch_wide_text misc pid tid = codes "SWITCH_CPU_WIDE " ++ (direction misc ++ (other_text misc ++ (task_pair pid tid ++ codes "\n")))

-- where a symbol is, how long it is, of which type, and its flags
abbrev pub symbol_numbers : (start len type flags : ℕ) → List ℕ
symbol_numbers start len type flags =
    codes "KSYMBOL addr " ++ (digits 16 false start ++ (codes " len " ++ (decimal len ++ (codes " type " ++ (decimal type ++ (codes " flags " ++ hex flags))))))

-- a KSYMBOL
abbrev pub ksymbol_text : (start len type flags : ℕ) → (name : List ℕ) → List ℕ
ksymbol_text start len type flags name = symbol_numbers start len type flags ++ (codes " name " ++ (name ++ codes "\n"))

-- the flags of a BPF_EVENT, and which program it is
abbrev pub program_text : (flags id : ℕ) → List ℕ
program_text flags id = codes ", flags " ++ (decimal flags ++ (codes ", id " ++ (decimal id ++ codes "\n")))

-- a BPF_EVENT: what happened to a program
abbrev pub bpf_text : (type flags id : ℕ) → List ℕ
bpf_text type flags id = codes "BPF_EVENT type " ++ (decimal type ++ program_text flags id)

-- a CGROUP
abbrev pub cgroup_text : (id : ℕ) → (path : List ℕ) → List ℕ
cgroup_text id path = codes "CGROUP cgroup: " ++ (decimal id ++ path_text path)
