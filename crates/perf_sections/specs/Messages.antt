-- What a refusal says.
use Rattle.std.specs.Prelude.{ℕ, List, codes}
use Rattle.perf_base.specs.declared.error.ErrorKind.{ErrorKind}
use Rattle.perf_base.specs.declared.error.ErrorKind.TheVariants as kinds
use Rattle.perf_sections.specs.declared.error.OpenError.{OpenError}
use Rattle.perf_sections.specs.declared.error.OpenError.TheVariants as errors
use Rattle.perf_sections.specs.declared.error.Part.{Part}
use Rattle.perf_sections.specs.declared.error.Part.TheVariants as parts

-- of a part that ends beyond the file
abbrev pub part_message : Part → List ℕ
part_message parts.Attributes = codes "the attributes end beyond the file, so it is cut off: copy it again, or record again"
part_message parts.Data = codes "the frames end beyond the file, so it is cut off: copy it again, or record again"
part_message (parts.Ids n) = codes "the ids of an event end beyond the file, so it is cut off: copy it again, or record again"

-- of an attribute that is refused with a kind
abbrev pub attribute_message : ErrorKind → List ℕ
attribute_message kinds.UnsupportedData = codes "an event has fields of a newer kernel than this library knows: use a newer version of it"
attribute_message kind = codes "the attribute of an event is damaged: copy the file again, or record again"

-- of each refusal: what is wrong with the file, and what to do
abbrev pub message : OpenError → List ℕ
message errors.NotPerfData = codes "this is no perf.data file: pass a file that `perf record` has written"
message errors.OldFormat = codes "this file has the format that perf wrote before 2010: record again with a newer perf"
message errors.BadHead = codes "the head of the file is cut off, or has an unknown size: copy the file again, or record again"
message errors.Pipe = codes "this is what `perf record -o -` writes: record into a file, with `perf record -o perf.data`"
message errors.Directory = codes "this is one of several files of `perf record --threads`: record again without that option"
message errors.Compressed = codes "the frames are compressed: run `perf inject -i perf.data -o plain.data`, or record without `-z`"
message (errors.PastEnd part) = part_message part
message errors.BadEntry = codes "the attributes are not whole entries, so the file is damaged: copy it again, or record again"
message errors.NoAttributes = codes "the file has no event, so it is damaged: copy it again, or record again"
message (errors.BadAttribute n kind) = attribute_message kind
message (errors.BadIds n) = codes "the ids of an event are not whole numbers, so the file is damaged: copy it again, or record again"
message errors.Overlap = codes "two parts of the file share bytes, so it is damaged: copy it again, or record again"
message errors.NoIdPlace = codes "the events have their ids at different places: record all of them with one `perf record`"
message (errors.SharedId n) = codes "two events have one id, so the file is damaged: copy it again, or record again"
message errors.OutOfMemory = codes "out of memory: leave more of it to the program"
