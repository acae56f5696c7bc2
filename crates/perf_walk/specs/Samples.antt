-- The sample that a frame contains.
use Rattle.std.specs.Prelude.{ℕ, List, Option, Some, None, Result, Ok}
use Rattle.perf_base.specs.Attribute.{or_zero}
use Rattle.perf_base.specs.Configuration.{Configuration}
use Rattle.perf_base.specs.Order.{Order}
use Rattle.perf_base.specs.declared.error.ErrorKind.{ErrorKind}
use Rattle.perf_history.specs.Modes.{mode_of}
use Rattle.perf_records.specs.Answers.{answer_of_frame}
use Rattle.perf_records.specs.Records.{RecordValue, sample_is}
use Rattle.perf_sample_types.specs.Sample.{SampleValue}
use Rattle.perf_sample_types.specs.SampleGetters.{getters_of}
use Rattle.perf_walk.specs.declared.sampling.Sample.{Sample}

-- the sample, if the record is one
abbrev pub sample_if : Result RecordValue ErrorKind → Option SampleValue
sample_if (Ok (sample_is s)) = Some s
sample_if _ = None

-- that of the bytes of a frame
abbrev pub sample_of : Configuration → Order → List ℕ → Option SampleValue
sample_of c o frame = sample_if (answer_of_frame c o frame)

-- its numbers, 0 for what it does not have, and its mode
abbrev pub sample_view : (misc : ℕ) → SampleValue → Sample
sample_view misc s = record {
  pid = or_zero (getters_of s).pid;
  tid = or_zero (getters_of s).tid;
  time = or_zero (getters_of s).time;
  cpu = or_zero (getters_of s).cpu;
  period = or_zero (getters_of s).period;
  ip = or_zero (getters_of s).ip;
  mode = mode_of misc;
}
