-- The attribute of each event.
use Rattle.std.specs.Prelude.{ℕ, List, Result, Ok, Err, length, ◌-◌, ◌==◌, if◌then◌else◌}
use Rattle.std.specs.Int.{w64, reverse_bits}
use Rattle.perf_base.specs.Attribute.{attribute}
use Rattle.perf_base.specs.Dynamic.{order_of}
use Rattle.perf_base.specs.Layout.{layout, slice}
use Rattle.perf_base.specs.declared.endian.Dynamic.{Dynamic}
use Rattle.perf_base.specs.declared.endian.Dynamic.TheVariants.{Big, Little}
use Rattle.perf_base.specs.declared.error.ErrorKind.{ErrorKind}
use Rattle.perf_base.specs.declared.error.ErrorKind.TheVariants.{InvalidRecord}
use Rattle.perf_base.specs.declared.sys.perf_event_attr.{perf_event_attr}
use Rattle.perf_sections.specs.Opens.{each_from}
use Rattle.perf_sections.specs.IdSections.{entry_at, entry_count}
use Rattle.perf_sections.specs.declared.head.Head.{Head}
use Rattle.perf_sections.specs.declared.error.OpenError.{OpenError}
use Rattle.perf_sections.specs.declared.error.OpenError.TheVariants as errors

-- The attribute with its single bits counted from the lowest: a big-endian machine counts them from
-- the highest.
abbrev pub turned : Dynamic → perf_event_attr → perf_event_attr
turned Big a = record a { flags = reverse_bits w64 a.flags }
turned Little a = a

-- an attribute whose size is that of its bytes
abbrev pub whole_entry : Dynamic → ℕ → Result perf_event_attr ErrorKind → Result perf_event_attr ErrorKind
whole_entry order size (Ok a) = if a.size == size then Ok (turned order a) else Err InvalidRecord
whole_entry order size (Err e) = Err e

-- the attribute that takes exactly these bytes
abbrev pub attribute_in : Dynamic → List ℕ → Result perf_event_attr ErrorKind
attribute_in order bytes = whole_entry order (length bytes) (layout (order_of order) attribute bytes)

-- a refusal of the event with that number
abbrev pub of_event : ℕ → Result perf_event_attr ErrorKind → Result perf_event_attr OpenError
of_event index (Ok a) = Ok a
of_event index (Err e) = Err (errors.BadAttribute index e)

-- an entry is an attribute before its last 16 bytes
abbrev pub attribute_at : List ℕ → Head → ℕ → Result perf_event_attr OpenError
attribute_at bytes h index = of_event index (attribute_in h.order (slice bytes (entry_at h index) (h.entry_size - 16)))

-- those of all entries
abbrev pub attributes_in : List ℕ → Head → Result (List perf_event_attr) OpenError
attributes_in bytes h = each_from (attribute_at bytes h) 0 (entry_count h)
