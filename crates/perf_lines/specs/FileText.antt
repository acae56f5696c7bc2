-- The line of a frame of a file: where the frame is and which event it belongs to, beside what the
-- line of a stream has.
use Rattle.std.specs.Prelude.{◌≡◌, ℕ, Bool, List, [], ◌∷◌, ◌++◌, codes, decimal, Option, Some, None}
use Rattle.std.specs.Prelude.{Result, Ok, Err, is_ok, if◌then◌else◌}
use Rattle.perf_base.specs.Configuration.{Configuration}
use Rattle.perf_base.specs.Order.{Order}
use Rattle.perf_base.specs.Refusals.{refusal_kind}
use Rattle.perf_base.specs.declared.error.ErrorKind.{ErrorKind}
use Rattle.perf_base.specs.declared.sys.perf_event_header.{perf_event_header}
use Rattle.perf_records.specs.Answers.{answer_after}
use Rattle.perf_records.specs.Records.{RecordValue}
use Rattle.perf_records.specs.Sights.{Sight, whole, bad}
use Rattle.perf_lines.specs.Fields.{with_spaces}
use Rattle.perf_lines.specs.Text.{record_words, unknown_words, kind_name, with_line_feed}
use Rattle.perf_lines.specs.declared.line.file.FrameEvent.{FrameEvent}
use Rattle.perf_lines.specs.declared.line.file.FrameEvent.TheVariants as event

-- an event: its number; `-` for a frame that perf wrote for itself; `?` and an id that no event has;
-- and `?` alone for a frame without an id
abbrev pub event_word : FrameEvent → List ℕ
event_word (event.Number n) = decimal n
event_word event.Perf = codes "-"
event_word (event.Unknown id) = codes "?" ++ decimal id
event_word event.Short = codes "?"

-- The words of a frame, or why it is refused.
abbrev pub Words : Type 0
Words = Result (List (List ℕ)) (List ℕ)

-- those of a record, or the kind of its refusal
abbrev pub words_of_record : Result RecordValue ErrorKind → Words
words_of_record (Ok r) = Ok (record_words r)
words_of_record (Err e) = Err (kind_name e)

-- Those of a whole frame without a configuration: its bytes, if perf wrote it for itself or its
-- event is known, and otherwise why its event is not.
abbrev pub words_of_bytes : FrameEvent → List ℕ → Words
words_of_bytes (event.Number n) bytes = Ok (unknown_words bytes)
words_of_bytes event.Perf bytes = Ok (unknown_words bytes)
words_of_bytes (event.Unknown id) bytes = Err (codes "UnknownId")
words_of_bytes event.Short bytes = Err (codes "NoId")

-- those of a whole frame: of its record under the configuration of its event and in the order of the
-- file, if there is one
abbrev pub words_under : FrameEvent → Option (Configuration × Order) → perf_event_header → List ℕ → Words
words_under e (Some how) h bytes = words_of_record (answer_after how.0 how.1 h bytes)
words_under e None h bytes = words_of_bytes e bytes

-- Those of what is found where a frame begins. A header that no whole frame follows is refused, and
-- so is a frame whose payload is cut off: bytes are missing.
abbrev pub words_of_frame : FrameEvent → Option (Configuration × Order) → (has_payload : Bool) → Sight → Words
words_of_frame e how has_payload (whole h bytes borrowed) =
    if has_payload then words_under e how h bytes else Err (codes "Eof")
words_of_frame e how has_payload (bad h refusal) = Err (kind_name (refusal_kind refusal))

-- as they are printed
abbrev pub printed : Words → List (List ℕ)
printed (Ok words) = words
printed (Err why) = codes "refused" ∷ why ∷ []

-- a text grew by these words, of a frame that was read or not
abbrev pub PrintsWords : Words → (read : Bool) → (old new : List ℕ) → Type 0
PrintsWords words read old new = (read ≡ is_ok words) × (new ≡ old ++ with_spaces (printed words))

-- the beginning of a line: its number, the offset of the frame in the file, its event, its header
abbrev pub line_start : ℕ → ℕ → FrameEvent → perf_event_header → List ℕ
line_start index at e h =
    decimal index
    ++ with_spaces (decimal at ∷ event_word e ∷ decimal h.type_ ∷ decimal h.misc ∷ decimal h.size ∷ [])

-- the line of a frame, with its line feed
abbrev pub file_line : ℕ → ℕ → FrameEvent → perf_event_header → Words → List ℕ
file_line index at e h words = with_line_feed (line_start index at e h ++ with_spaces (printed words))
