-- PERF_RECORD_MMAP: a process, its thread, what it mapped and where, and the path of the file.
use Rattle.std.specs.Prelude.{ℕ, List, IsTrue, Bool}
use Rattle.perf_base.specs.Cow.{cow_items, is_borrowed, cow_form}
use Rattle.perf_base.specs.Layout.{Parts, done, ◌>>=◌}
use Rattle.perf_base.specs.FieldWords.{u32, u64, name}
use Rattle.perf_types.specs.declared.mmap.Mmap.{Mmap}

-- an MMAP record as plain numbers and bytes
pub record MmapValue : Type 0 where
  pub pid : ℕ
  pub tid : ℕ
  pub addr : ℕ
  pub len : ℕ
  pub pgoff : ℕ
  pub filename : List ℕ

-- the value of a record, borrowed or owned
abbrev pub mmap_value : Mmap → MmapValue
mmap_value r = record {
  pid = r.pid;
  tid = r.tid;
  addr = r.addr;
  len = r.len;
  pgoff = r.pgoff;
  filename = cow_items r.filename;
}

-- whether its path is borrowed
abbrev pub mmap_form : Mmap → List Bool
mmap_form r = cow_form r.filename

-- none of its bytes were copied
abbrev pub IsBorrowedMmap : Mmap → Type 0
IsBorrowedMmap r = IsTrue (is_borrowed r.filename)

-- the body: numbers, and then the path
abbrev pub mmap : Parts MmapValue
mmap = do
  pid ← u32
  tid ← u32
  addr ← u64
  len ← u64
  pgoff ← u64
  filename ← name
  done (record { pid = pid; tid = tid; addr = addr; len = len; pgoff = pgoff; filename = filename })
