use Rattle.perf_words.specs.SetBits.{sample_flags_bits}
use Rattle.perf_sample_types.proofs.Origins.{origin_read, origin_stops}
use Rattle.perf_sample_types.proofs.sample_id.read_fields.Goals as goal

pub returns-in-Ok : goal.returns-in-Ok
returns-in-Ok g c =
    record { call = origin_read (sample_flags_bits c.args.flags) c.in-Ok.ensures.call c.read_after.ensures.call }

pub returns-in-Err : goal.returns-in-Err
returns-in-Err g c = record { call = origin_stops (sample_flags_bits c.args.flags) c.in-Err.ensures.call }
