-- The numbers and the byte strings of a record in a flat frame.
use Rattle.std.specs.Prelude.{◌≡◌, ℕ, List}
use Rattle.perf_flat.specs.Arrays.{filled}
use Rattle.perf_flat.specs.RecordNumbers.{numbers_of}
use Rattle.perf_flat.specs.Strings.{strings_of, HasStrings}
use Rattle.perf_flat.specs.declared.frame.FlatFrame.{FlatFrame}
use Rattle.perf_records.specs.Records.{RecordValue}

-- a flat frame has the numbers of a record, which is no sample, and its byte strings are in the frame
pub record HasContents (frame : List ℕ) (f : FlatFrame) (value : RecordValue) : Type 0 where
  pub numbers : f.numbers ≡ filled (numbers_of value)
  pub strings : HasStrings frame f.spans 0 (strings_of value)
