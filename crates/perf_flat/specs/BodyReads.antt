-- The parts of a body that depend on the configuration or on the header's misc, as they are read in place.
use Rattle.std.specs.Prelude.{ℕ, ◌≡◌, List}
use Rattle.perf_types.specs.MmapDetail.{DetailValue, maj_of, min_of, ino_of, ino_generation_of, build_id_of}
use Rattle.perf_counters.specs.ReadValue.{SingleRead}
use Rattle.perf_base.specs.Attribute.{or_zero}
use Rattle.perf_flat.specs.SampleReads.{InFrames}
use Rattle.perf_flat.specs.Samples.{HasString}
use Rattle.perf_flat.specs.declared.bodies.Detail.{Detail}
use Rattle.perf_flat.specs.declared.sample.Counters.{Counters}

-- the read of one counter
abbrev pub counter_read : Counters → SingleRead
counter_read made = record {
  value = made.value;
  time_enabled = made.time_enabled;
  time_running = made.time_running;
  id = made.id;
  lost = made.lost;
}

-- The detail of a mapping was read: the numbers of its inode, which are 0 if it has a build id, and where
-- that is.
pub record IsDetail (body : List ℕ) (d : DetailValue) (made : Detail) : Type 0 where
  pub maj : made.maj ≡ or_zero (maj_of d)
  pub min : made.min ≡ or_zero (min_of d)
  pub ino : made.ino ≡ or_zero (ino_of d)
  pub ino_generation : made.ino_generation ≡ or_zero (ino_generation_of d)
  pub build_id : InFrames body (λ frame. HasString frame made.build_id (build_id_of d))
