-- How the header of a run's next frame is read, and how a run stops if there is none.
use Rattle.std.specs.Prelude.{◌≡◌, ℕ, ◌+◌, ◌<◌, ◌≤◌, max, min, List, [], length, drop, IsTrue}
use Rattle.std.specs.Prelude.{Option, Some, None, Result, Ok, Err}
use Rattle.perf_base.specs.Header.{header_of}
use Rattle.perf_base.specs.Order.{Order}
use Rattle.perf_base.specs.Refusals.{refusal_kind}
use Rattle.perf_base.specs.declared.error.ErrorKind.{ErrorKind}
use Rattle.perf_base.specs.declared.error.ErrorKind.TheVariants.{Eof}
use Rattle.perf_base.specs.declared.sys.perf_event_header.{perf_event_header}
use Rattle.perf_buffers.specs.Buffer.{Refuses}
use Rattle.perf_reader.specs.ReaderState.{ReaderState}
use Rattle.perf_reader.specs.Reading.{Transition, of_layout, last_of}
use Rattle.perf_reader.specs.declared.header.Stop.{Stop}
use Rattle.perf_reader.specs.declared.header.Stop.TheVariants as stop

-- ---- the next frame

-- The length of the first frame of some bytes: the size that its header specifies, or the header's
-- eight if that is less.
abbrev pub frame_length : Order → List ℕ → ℕ
frame_length o bytes = max 8 (header_of o bytes).size

-- the length of what is left of the next frame, or of a header that is cut short
abbrev pub next_length : Order → List ℕ → ℕ
next_length o bytes = min (frame_length o bytes) (length bytes)

-- a prefix of the next frame was taken
abbrev pub MovesWithinFrame : Order → List ℕ → List ℕ → Type 0
MovesWithinFrame o bytes left =
    (length left ≤ length bytes) × (length bytes ≤ length left + next_length o bytes)
    × (left ≡ last_of (length left) bytes)

-- ---- its header

-- a header was read: the next eight bytes, in two reads
abbrev pub ReadsHeader : Transition perf_event_header
ReadsHeader old (Ok h) new =
    (8 ≤ length old.source.left) × (h ≡ header_of old.order old.source.left)
    × (new.source.left ≡ drop 8 old.source.left) × (new.reads ≡ old.reads + 2)
ReadsHeader old (Err e) new = Unit {0}

-- The header of a run's next frame, if the buffer shows all of it: in two reads, of its first byte
-- and of the others. If the buffer shows nothing, that was the first of them.
abbrev pub ReadsShownHeader : Transition (Option perf_event_header)
ReadsShownHeader old (Ok (Some h)) new =
    (8 ≤ length old.source.left) × (h ≡ header_of old.order old.source.left)
    × (new.source.left ≡ drop 8 old.source.left) × (new.reads ≡ old.reads + 2)
ReadsShownHeader old (Ok None) new =
    (new.source.left ≡ old.source.left) × (new.reads ≡ old.reads)
ReadsShownHeader old (Err e) new =
    (new.source.left ≡ old.source.left) × (new.reads ≡ old.reads + 1) × Refuses old.source e

-- ---- if there is none

-- The kind of what stops a run where it has no header: the end, if nothing is left or the header is
-- cut short.
abbrev pub stop_kind : Stop → ErrorKind
stop_kind stop.Done = Eof
stop_kind stop.CutHeader = Eof
stop_kind (stop.Refused r) = refusal_kind r

-- the same of a result
abbrev pub stop_kinds : {A : Type 0} → Result A Stop → Result A ErrorKind
stop_kinds (Ok x) = Ok x
stop_kinds (Err s) = Err (stop_kind s)

-- How a run stops at a frame: nothing is left, its header is cut, or there is a refusal that is not
-- of the layout.
abbrev pub StopsAt : ReaderState → Stop → ReaderState → Type 0
StopsAt old stop.Done new =
    (old.source.left ≡ []) × (new.source.left ≡ []) × (new.reads ≡ old.reads + 1)
StopsAt old stop.CutHeader new =
    (0 < length old.source.left) × (length old.source.left < 8) × (new.source.left ≡ [])
    × (new.reads ≡ old.reads + 2)
StopsAt old (stop.Refused r) new =
    (IsTrue (of_layout (refusal_kind r)) → ⊥)
    × MovesWithinFrame old.order old.source.left new.source.left
