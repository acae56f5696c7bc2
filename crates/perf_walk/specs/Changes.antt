-- What a frame states about threads and memory.
use Rattle.std.specs.Prelude.{ℕ, not, List, [], Option, Some, None, Result, Ok, Err, if◌then◌else◌}
use Rattle.perf_base.specs.Attribute.{or_zero}
use Rattle.perf_base.specs.Configuration.{Configuration}
use Rattle.perf_base.specs.Header.{header_of}
use Rattle.perf_base.specs.Misc.{build_id_bit}
use Rattle.perf_base.specs.Order.{Order}
use Rattle.perf_base.specs.declared.error.ErrorKind.{ErrorKind}
use Rattle.perf_flat.specs.Arrays.{low_u32}
use Rattle.perf_history.specs.Modes.{mode_of}
use Rattle.perf_history.specs.declared.changes.Change.{Change}
use Rattle.perf_history.specs.declared.changes.Change.TheVariants.{Comm, Fork, Map, Symbol}
use Rattle.perf_history.specs.declared.changes.Identity.{Identity}
use Rattle.perf_history.specs.declared.changes.Inode as inodes
use Rattle.perf_history.specs.declared.changes.Identity.TheVariants.{Unknown, BuildId, Inode}
use Rattle.perf_records.specs.Answers.{answer_of_frame}
use Rattle.perf_records.specs.Records.{RecordValue, mmap_is, comm_is, fork_is, mmap2_is, ksymbol_is}
use Rattle.perf_types.specs.Comm.{CommValue}
use Rattle.perf_types.specs.KSymbol.{KSymbolValue}
use Rattle.perf_types.specs.Mmap.{MmapValue}
use Rattle.perf_types.specs.Mmap2.{Mmap2Value}
use Rattle.perf_types.specs.MmapDetail.{DetailValue, maj_of, min_of, ino_of, ino_generation_of, build_id_of}
use Rattle.perf_types.specs.declared.numbers.Exit.{Exit}
use Rattle.perf_words.specs.Bits.{has_bit}
use Rattle.perf_walk.specs.Plain.{lent}

-- bytes that are present, or none
abbrev pub or_empty : Option (List ℕ) → List ℕ
or_empty (Some bytes) = bytes
or_empty None = []

-- a COMM: the name of a thread; ids have 32 bits
abbrev pub comm_change : CommValue → Change
comm_change r = Comm (record { tid = low_u32 r.tid; name = lent r.comm })

-- a FORK: a thread, and its parent; bit 13 of misc if perf made it up
abbrev pub fork_change : (misc : ℕ) → Exit → Change
fork_change misc r = Fork (record {
  pid = low_u32 r.pid;
  ppid = low_u32 r.ppid;
  tid = low_u32 r.tid;
  ptid = low_u32 r.ptid;
  made_up = has_bit misc 13;
})

-- an MMAP: a mapping, of code unless bit 13 of misc is set
abbrev pub mmap_change : (misc : ℕ) → MmapValue → Change
mmap_change misc r = Map (record {
  pid = low_u32 r.pid;
  mode = mode_of misc;
  start = r.addr;
  len = r.len;
  offset = r.pgoff;
  file = lent r.filename;
  identity = Unknown;
  executable = not (has_bit misc 13);
})

-- an inode, by the device and the number of a file
abbrev pub inode_of : DetailValue → inodes.Inode
inode_of d = record {
  major = low_u32 (or_zero (maj_of d));
  minor = low_u32 (or_zero (min_of d));
  number = or_zero (ino_of d);
  generation = or_zero (ino_generation_of d);
}

-- which file is mapped: by its build id if bit 14 of misc is set, else by its inode
abbrev pub identity_of : (misc : ℕ) → DetailValue → Identity
identity_of misc d =
    if has_bit misc build_id_bit then BuildId (lent (or_empty (build_id_of d)))
    else Inode (inode_of d)

-- an MMAP2: a mapping, of code if bit 2 of its protection is set, PROT_EXEC
abbrev pub mmap2_change : (misc : ℕ) → Mmap2Value → Change
mmap2_change misc r = Map (record {
  pid = low_u32 r.pid;
  mode = mode_of misc;
  start = r.addr;
  len = r.len;
  offset = r.pgoff;
  file = lent r.filename;
  identity = identity_of misc r.detail;
  executable = has_bit r.prot 2;
})

-- a KSYMBOL: a symbol of the kernel, which is removed if bit 0 of its flags is set
abbrev pub symbol_change : KSymbolValue → Change
symbol_change r = Symbol (record {
  start = r.addr;
  len = r.len;
  name = lent r.name;
  removed = has_bit r.flags 0;
})

-- what a record states, if it does
abbrev pub change_in : (misc : ℕ) → RecordValue → Option Change
change_in misc (mmap_is r) = Some (mmap_change misc r)
change_in misc (comm_is r) = Some (comm_change r)
change_in misc (fork_is r) = Some (fork_change misc r)
change_in misc (mmap2_is r) = Some (mmap2_change misc r)
change_in misc (ksymbol_is r) = Some (symbol_change r)
change_in misc _ = None

-- the same, if there is a record
abbrev pub change_if : (misc : ℕ) → Result RecordValue ErrorKind → Option Change
change_if misc (Ok value) = change_in misc value
change_if misc (Err e) = None

-- what the bytes of a frame state
abbrev pub change_of : Configuration → Order → List ℕ → Option Change
change_of c o frame = change_if (header_of o frame).misc (answer_of_frame c o frame)
