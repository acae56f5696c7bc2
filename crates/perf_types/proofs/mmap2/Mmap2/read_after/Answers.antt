use Rattle.perf_types.proofs.Places.{detail_read}
use Rattle.perf_types.proofs.mmap2.Mmap2.read_after.Goals as goal

pub returns-in-Ok : goal.returns-in-Ok
returns-in-Ok g c =
    record { call = detail_read c.args.place c.in-Ok.ensures.call c.read_path.ensures.call }
