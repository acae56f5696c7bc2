use Rattle.perf_types.proofs.Places.{places_read, place_stops}
use Rattle.perf_types.proofs.mmap2.Mmap2ReadFrom.read.Goals as goal

pub returns-in-Ok : goal.returns-in-Ok
returns-in-Ok g c =
    record { call = places_read c.in-Ok.ensures.call c.read_after.ensures.call }

pub returns-in-Err : goal.returns-in-Err
returns-in-Err g c =
    record { call = place_stops c.in-Err.ensures.memory c.in-Err.ensures.call }
