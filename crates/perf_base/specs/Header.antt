-- The header of a record, `struct perf_event_header` of perf_event.h.
use Rattle.std.specs.Prelude.{ℕ, List}
use Rattle.perf_base.specs.Order.{Order}
use Rattle.perf_base.specs.Layout.{Parts, done, ◌>>=◌, value}
use Rattle.perf_base.specs.FieldWords.{u16, u32}
use Rattle.perf_base.specs.declared.sys.perf_event_header.{perf_event_header}

-- type, misc, size: eight bytes
abbrev pub header : Parts perf_event_header
header = do
  ty ← u32
  misc ← u16
  size ← u16
  done (record { type_ = ty; misc = misc; size = size })

-- the header in the first eight bytes, of which there are at least eight
abbrev pub header_of : Order → List ℕ → perf_event_header
header_of o bytes = value o bytes 0 header

-- a header whose fields are all 0
abbrev pub zero_header : perf_event_header
zero_header = record { type_ = 0; misc = 0; size = 0 }
