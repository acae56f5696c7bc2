-- The 24 bytes of PERF_RECORD_MMAP2 that identify the mapped file: an inode, or a build id.
use Rattle.std.specs.Prelude.{ℕ, Bool, true, List, take, Option, Some, None, nat_le, if◌then◌else◌}
use Rattle.perf_base.specs.Configuration.{Configuration}
use Rattle.perf_base.specs.Misc.{build_id_bit}
use Rattle.perf_words.specs.Bits.{has_bit}
use Rattle.perf_base.specs.Layout.{Parts, done, ◌>>=◌, ◌>>◌}
use Rattle.perf_base.specs.FieldWords.{u8, u32, u64, bytes, gap, require}
use Rattle.perf_base.specs.declared.error.ErrorKind.TheVariants.{InvalidRecord}
use Rattle.perf_types.specs.declared.mmap2.MmapDetail.{MmapDetail}
use Rattle.perf_types.specs.declared.mmap2.MmapDetail.TheVariants as detail

-- a detail as plain numbers and bytes
pub data DetailValue : Type 0 where
  inode_is : (maj min ino ino_generation : ℕ) → DetailValue
  build_id_is : List ℕ → DetailValue

-- the value of a detail: for a build id, only the bytes that count
abbrev pub detail_value : MmapDetail → DetailValue
detail_value (detail.Default maj min ino ino_generation) = inode_is maj min ino ino_generation
detail_value (detail.BuildId build_id len) = build_id_is (take len build_id)

-- The length of a build id is at most twenty.
abbrev pub has_fitting_id : MmapDetail → Bool
has_fitting_id (detail.Default maj min ino ino_generation) = true
has_fitting_id (detail.BuildId build_id len) = nat_le len 20

-- ---- the fields that a detail has, or does not have

-- the major number of the device, if it is an inode
abbrev pub maj_of : DetailValue → Option ℕ
maj_of (inode_is maj min ino ino_generation) = Some maj
maj_of (build_id_is id) = None

-- the minor number of the device, if it is an inode
abbrev pub min_of : DetailValue → Option ℕ
min_of (inode_is maj min ino ino_generation) = Some min
min_of (build_id_is id) = None

-- the number of the inode
abbrev pub ino_of : DetailValue → Option ℕ
ino_of (inode_is maj min ino ino_generation) = Some ino
ino_of (build_id_is id) = None

-- the generation of the inode
abbrev pub ino_generation_of : DetailValue → Option ℕ
ino_generation_of (inode_is maj min ino ino_generation) = Some ino_generation
ino_generation_of (build_id_is id) = None

-- the bytes of the build id
abbrev pub build_id_of : DetailValue → Option (List ℕ)
build_id_of (inode_is maj min ino ino_generation) = None
build_id_of (build_id_is id) = Some id

-- ---- tables

-- the device, the number and the generation of an inode
abbrev pub inode : Parts DetailValue
inode = do
  maj ← u32
  min ← u32
  ino ← u64
  ino_generation ← u64
  done (inode_is maj min ino ino_generation)

-- Twenty bytes, the first `len` of which are the build id. A length above twenty is refused once
-- all bytes are present.
abbrev pub build_id : Parts DetailValue
build_id = do
  len ← u8
  gap 3
  id ← bytes 20
  require (nat_le len 20) InvalidRecord
  done (build_id_is (take len id))

-- An inode or a build id, depending on bit PERF_RECORD_MISC_MMAP_BUILD_ID of misc.
abbrev pub mmap_detail : Configuration → Parts DetailValue
mmap_detail c = if has_bit c.misc build_id_bit then build_id else inode
