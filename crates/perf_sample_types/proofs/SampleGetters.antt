-- What the getters of a sample return for a field that is a number.
use Rattle.std.proofs.Common.{◌≡◌, ℕ, Option, Some, None, option_map, refl}
use Rattle.perf_sample_types.specs.Sample.{number_is}
use Rattle.perf_sample_types.specs.SampleGetters.{number_in}
use Rattle.perf_sample_types.specs.SampleId.{first_of}

pub number_kept : (number : Option ℕ) → number_in (option_map number_is number) ≡ number
number_kept None = refl
number_kept (Some number) = refl

pub first_none : (number : Option ℕ) → first_of number None ≡ number
first_none None = refl
first_none (Some number) = refl

pub ruleset kept = (number_kept, first_none)
