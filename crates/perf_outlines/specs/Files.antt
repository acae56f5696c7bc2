-- What is known of a `perf.data` file, and why it is refused, as plain numbers.
use Rattle.std.specs.Prelude.{ℕ, if◌then◌else◌}
use Rattle.perf_base.specs.declared.error.ErrorKind.{ErrorKind}
use Rattle.perf_base.specs.declared.error.ErrorKind.TheVariants as kinds
use Rattle.perf_sections.specs.declared.error.OpenError.{OpenError}
use Rattle.perf_sections.specs.declared.error.OpenError.TheVariants as errors
use Rattle.perf_sections.specs.declared.error.Part.{Part}
use Rattle.perf_sections.specs.declared.error.Part.TheVariants as parts
use Rattle.perf_outlines.specs.declared.summary.Outline.{Outline}
use Rattle.perf_flat.specs.FlatConfigs.{order_code}
use Rattle.perf_outlines.specs.declared.file.FlatFile.{FlatFile}

-- ---- refusals as numbers

-- a part that ends beyond the file
abbrev pub part_code : Part → ℕ
part_code parts.Attributes = 7
part_code parts.Data = 8
part_code (parts.Ids n) = 9

-- an attribute: of a newer kernel, or damaged
abbrev pub attribute_code : ErrorKind → ℕ
attribute_code kinds.UnsupportedData = 13
attribute_code kind = 12

-- why a file cannot be opened
abbrev pub open_code : OpenError → ℕ
open_code errors.NotPerfData = 1
open_code errors.OldFormat = 2
open_code errors.BadHead = 3
open_code errors.Pipe = 4
open_code errors.Directory = 5
open_code errors.Compressed = 6
open_code (errors.PastEnd part) = part_code part
open_code errors.BadEntry = 10
open_code errors.NoAttributes = 11
open_code (errors.BadAttribute n kind) = attribute_code kind
open_code (errors.BadIds n) = 14
open_code errors.Overlap = 15
open_code errors.NoIdPlace = 16
open_code (errors.SharedId id) = 17
open_code errors.OutOfMemory = 18

-- ---- a file

-- the numbers of an outline
abbrev pub flat_file : Outline → FlatFile
flat_file o = record {
  order = order_code o.head.order;
  is_closed = if o.head.is_closed then 1 else 0;
  frames = o.head.frames;
  events = o.events;
  ids = o.ids;
}
