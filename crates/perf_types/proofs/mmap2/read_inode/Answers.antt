use Rattle.perf_base.specs.Layout.{value}
use Rattle.perf_types.specs.MmapDetail.{inode}
use Rattle.perf_reader.proofs.AtOnce.{at_once}
use Rattle.perf_types.proofs.AtOnce.{inode_taken}
use Rattle.perf_types.proofs.mmap2.read_inode.Goals as goal

-- all at once
pub returns-in-Some-clause-call : goal.returns-in-Some-clause-call
returns-in-Some-clause-call g c =
    at_once inode 24 4 (λ o xs. value o xs 0 inode) inode_taken c.inode_in.ensures.value c.endian.ensures c.in-Some.is c.in_ok-bytes.ensures.taken
