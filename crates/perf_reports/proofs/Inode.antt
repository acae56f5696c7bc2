-- The four numbers of an inode are printed as the detail that they are.
use Rattle.std.proofs.Common.{ℕ, ◌≡◌, Some}
use Rattle.perf_types.specs.MmapDetail.{DetailValue, inode_is, build_id_is, maj_of, min_of, ino_of, ino_generation_of}
use Rattle.perf_reports.specs.TaskLines.{inode_words, file}

pub file-of_parts : (d : DetailValue) (maj min ino generation : ℕ) → Some maj ≡ maj_of d → Some min ≡ min_of d → Some ino ≡ ino_of d → Some generation ≡ ino_generation_of d → file d ≡ inode_words maj min ino generation
file-of_parts (inode_is a b c d) maj min ino generation p q r s = cc
file-of_parts (build_id_is id) maj min ino generation p q r s = cc
