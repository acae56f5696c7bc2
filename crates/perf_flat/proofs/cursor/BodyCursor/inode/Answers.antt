use Rattle.std.proofs.Common.{refl}
use Rattle.perf_types.specs.MmapDetail.{inode_is}
use Rattle.perf_flat.proofs.RecordWrites.{next_number}
use Rattle.perf_flat.proofs.CursorRuns.{all_read}
use Rattle.perf_flat.proofs.cursor.BodyCursor.inode.Goals as goal

pub returns : goal.returns
returns g c =
    let maj_at = c.read_u32_as_u64 in
    let min_at = c.read_u32_as_u64-2 in
    let ino_at = c.read_u64 in
    let generation_at = c.read_u64-2 in
    record {
      value = inode_is maj_at.result min_at.result ino_at.result generation_at.result;
      reads = next_number maj_at.ensures (next_number min_at.ensures (next_number ino_at.ensures (next_number generation_at.ensures all_read)));
      holds = λ ok. record { maj = refl; min = refl; ino = refl; ino_generation = refl; build_id = λ frame is. refl };
    }
