-- PERF_RECORD_MMAP2: as PERF_RECORD_MMAP, and also which file was mapped, how its memory may be
-- used, and how it was mapped.
use Rattle.std.specs.Prelude.{ℕ, List, IsTrue, Bool}
use Rattle.perf_base.specs.Configuration.{Configuration}
use Rattle.perf_base.specs.Cow.{cow_items, is_borrowed, cow_form}
use Rattle.perf_base.specs.Layout.{Parts, done, ◌>>=◌}
use Rattle.perf_base.specs.FieldWords.{u32, u64, name}
use Rattle.perf_types.specs.Mmap.{MmapValue}
use Rattle.perf_types.specs.MmapDetail.{DetailValue, detail_value, mmap_detail}
use Rattle.perf_types.specs.declared.mmap2.Mmap2.{Mmap2}
use Rattle.perf_types.specs.declared.mmap2.Place.{Place}

-- an MMAP2 record as plain numbers and bytes
pub record Mmap2Value : Type 0 where
  pub pid : ℕ
  pub tid : ℕ
  pub addr : ℕ
  pub len : ℕ
  pub pgoff : ℕ
  pub detail : DetailValue
  pub prot : ℕ
  pub flags : ℕ
  pub filename : List ℕ

-- the value of a record, borrowed or owned
abbrev pub mmap2_value : Mmap2 → Mmap2Value
mmap2_value r = record {
  pid = r.pid;
  tid = r.tid;
  addr = r.addr;
  len = r.len;
  pgoff = r.pgoff;
  detail = detail_value r.detail;
  prot = r.prot;
  flags = r.flags;
  filename = cow_items r.filename;
}

-- the MMAP record of the same mapping
abbrev pub mapping_of : Mmap2Value → MmapValue
mapping_of r = record {
  pid = r.pid;
  tid = r.tid;
  addr = r.addr;
  len = r.len;
  pgoff = r.pgoff;
  filename = r.filename;
}

-- whether its path is borrowed
abbrev pub mmap2_form : Mmap2 → List Bool
mmap2_form r = cow_form r.filename

-- no byte of its path was copied
abbrev pub IsBorrowedMmap2 : Mmap2 → Type 0
IsBorrowedMmap2 r = IsTrue (is_borrowed r.filename)

-- the body: numbers with the detail between them, and then the path
abbrev pub mmap2 : Configuration → Parts Mmap2Value
mmap2 c = do
  pid ← u32
  tid ← u32
  addr ← u64
  len ← u64
  pgoff ← u64
  detail ← mmap_detail c
  prot ← u32
  flags ← u32
  filename ← name
  done (record {
    pid = pid;
    tid = tid;
    addr = addr;
    len = len;
    pgoff = pgoff;
    detail = detail;
    prot = prot;
    flags = flags;
    filename = filename;
  })

-- ---- in groups, as it is read; `proofs/Places` shows that they form the body

-- the task, and what it mapped and where
abbrev pub place : Parts Place
place = do
  pid ← u32
  tid ← u32
  addr ← u64
  len ← u64
  pgoff ← u64
  done (record { pid = pid; tid = tid; addr = addr; len = len; pgoff = pgoff })

-- what follows the detail
abbrev pub after_detail : Place → DetailValue → Parts Mmap2Value
after_detail p detail = do
  prot ← u32
  flags ← u32
  filename ← name
  done (record {
    pid = p.pid;
    tid = p.tid;
    addr = p.addr;
    len = p.len;
    pgoff = p.pgoff;
    detail = detail;
    prot = prot;
    flags = flags;
    filename = filename;
  })

-- what follows the place
abbrev pub after_place : Place → Configuration → Parts Mmap2Value
after_place p c = do
  detail ← mmap_detail c
  after_detail p detail
