-- Samples in boxes.
use Rattle.std.specs.Prelude.{Box}
use Rattle.std.specs.declared.alloc.Global.{Global}
use Rattle.perf_sample_types.specs.Sample.{SampleValue}
use Rattle.perf_sample_types.specs.SampleGroups.{sample_value, IsBorrowedSample}
use Rattle.perf_sample_types.specs.declared.sample.Sample.{Sample}

-- the fields of the sample in a box
abbrev pub boxed_value : Box Sample Global → SampleValue
boxed_value content = sample_value content.value

-- no byte of it was copied
abbrev pub IsBorrowedBox : Box Sample Global → Type 0
IsBorrowedBox content = IsBorrowedSample content.value
