-- The frames of entries, each read under its own event.
use Rattle.std.specs.Prelude.{◌≡◌, ◌≤◌, ◌<◌, ℕ, ◌==◌, List, length, get_or, map, Option, Some, None, if◌then◌else◌}
use Rattle.perf_base.specs.Configuration.{Configuration}
use Rattle.perf_base.specs.Configured.{configuration_of, endian_of}
use Rattle.perf_base.specs.Dynamic.{order_of}
use Rattle.perf_base.specs.declared.config.ParseConfig.{ParseConfig}
use Rattle.perf_base.specs.declared.endian.Dynamic.{Dynamic}
use Rattle.perf_file.specs.Entries.{config_at}
use Rattle.perf_sections.specs.Opened.{File}
use Rattle.perf_flat.specs.Flat.{IsFlat, first_frame}
use Rattle.perf_flat.specs.declared.frame.FlatFrame.{FlatFrame}
use Rattle.perf_outlines.specs.Entries.{event_at, left_from}
use Rattle.perf_outlines.specs.FileEvents.{stated, event_numbers}
use Rattle.perf_outlines.specs.declared.file_entries.FlatEntry.{FlatEntry}
use Rattle.perf_outlines.specs.declared.file_events.FlatEvent.{FlatEvent}

-- flat events state the events of a file
abbrev pub States : File → List ℕ → List FlatEvent → Type 0
States f bytes all = map (stated (order_of f.order) bytes) all ≡ map (event_numbers f.order) f.events

-- a frame that is not read
abbrev pub refused : FlatFrame → FlatFrame
refused f = record f { read = 0; refusal = 3 }

-- the flat event of an entry
abbrev pub event_of : List FlatEvent → FlatEntry → Option FlatEvent
event_of all e = if e.owner == 0 then event_at all e.number else None

-- how the frame of an entry is read, if it belongs to an event of the file
abbrev pub entry_config : File → FlatEntry → Option Configuration
entry_config f e = if e.owner == 0 then config_at f e.number else None

-- the frame at the front of these bytes is read, if they are at least a header
pub record ReadsLeft (c : ParseConfig Dynamic) (left : List ℕ) (old new : FlatFrame) : Type 0 where
  pub read : 8 ≤ length left → IsFlat (configuration_of c) (order_of (endian_of c)) (first_frame (order_of (endian_of c)) left) new
  pub unread : length left < 8 → new ≡ refused old

-- The frame of an entry is read under its own event; one that has no event, or is not in the file, is
-- not read.
pub record ReadsEntry (f : File) (e : FlatEntry) (old new : FlatFrame) : Type 0 where
  pub read : (c : Configuration) → entry_config f e ≡ Some c → 8 ≤ length (left_from f e.at) → IsFlat c (order_of f.order) (first_frame (order_of f.order) (left_from f e.at)) new
  pub foreign : entry_config f e ≡ None → new ≡ refused old
  pub outside : length (left_from f e.at) < 8 → new ≡ refused old

-- so are the first n
abbrev pub ReadsEntries : File → List FlatEntry → ℕ → (old new : List FlatFrame) → Type 0
ReadsEntries f entries n old new = (k : ℕ) (e : FlatEntry) (x : FlatFrame) → k < n → ReadsEntry f (get_or entries k e) (get_or old k x) (get_or new k x)
