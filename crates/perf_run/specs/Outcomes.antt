-- How a run of the program ends, and what it has written by then.
use Rattle.std.specs.Prelude.{◌≡◌, ℕ, ◌<◌, Bool, true, false, ◌||◌, ◌&&◌, not, List, ◌++◌, take}
use Rattle.std.specs.Prelude.{codes, is_err, if◌then◌else◌, ◌⊎◌, Option, IsTrue}
use Rattle.std.specs.List.{list_any}
use Rattle.std.specs.Io.{StartsWith}
use Rattle.std.specs.Io.KnownBytes.{Appends}
use Rattle.perf_base.specs.Order.{Order}
use Rattle.perf_base.specs.Configuration.{Configuration}
use Rattle.perf_base.specs.declared.error.ErrorKind.{ErrorKind}
use Rattle.perf_base.specs.declared.error.ErrorKind.TheVariants.{External, OutOfMemory}
use Rattle.perf_base.specs.Errors.{kind_of}
use Rattle.perf_parser.specs.declared.run.RunEnd.{RunEnd}
use Rattle.perf_parser.specs.declared.run.RunEnd.TheVariants as end
use Rattle.perf_records.specs.Frames.{StreamEnd, done, cut_header, stream_end}
use Rattle.perf_lines.specs.declared.outcome.Outcome.{Outcome}
use Rattle.perf_lines.specs.declared.outcome.Outcome.TheVariants.{Clean, Refused, BadAttr, Faulted}
use Rattle.perf_lines.specs.declared.outcome.Outcome.TheVariants.{Stopped}
use Rattle.perf_lines.specs.Text.{kind_name}
use Rattle.perf_run.specs.Text.{first_answers, is_at_limit, lines_from, end_line, Stream}
use Rattle.perf_run.specs.Text.{framed, without_frames, stream_answers, stream_text}

-- ---- a text without a fault

-- the frames end inside a header
abbrev pub is_cut : StreamEnd → Bool
is_cut done = false
is_cut cut_header = true

-- a printed result is a refusal
abbrev pub prints_refusal : Configuration → Order → ℕ → List ℕ → Bool
prints_refusal c o limit bytes = list_any (λ pair. is_err pair.1) (first_answers c o limit bytes)

-- the text ends inside a header
abbrev pub ends_cut : Configuration → Order → ℕ → List ℕ → Bool
ends_cut c o limit bytes = not (is_at_limit c o limit bytes) && is_cut (stream_end o bytes)

-- the outcome of a run over a stream, without a fault
abbrev pub outcome_of : Configuration → Order → ℕ → List ℕ → Outcome
outcome_of c o limit bytes =
    if prints_refusal c o limit bytes || ends_cut c o limit bytes then Refused else Clean

-- the same of a stream that may begin with an attribute
abbrev pub stream_outcome : Order → ℕ → Stream → Outcome
stream_outcome o limit (framed c bytes) = outcome_of c o limit bytes
stream_outcome o limit (without_frames kind) = BadAttr

-- ---- a text with a fault

-- a kind that ends a run early: out of memory, or a fault, if the buffer can fault
abbrev pub EndsEarly : (can_fault : Bool) → ErrorKind → Type 0
EndsEarly can_fault kind = ((kind ≡ External) × IsTrue can_fault) ⊎ (kind ≡ OutOfMemory)

-- The text of a run that ended with a fault: the lines of the first k results, fewer than the limit
-- or none, and the line of the fault.
abbrev pub IsFaultText : (can_fault : Bool) → Order → ℕ → Stream → List ℕ → Type 0
IsFaultText can_fault o limit stream written =
    (k : ℕ) × (kind : ErrorKind) × ((k < limit) ⊎ (k ≡ 0)) × EndsEarly can_fault kind
    × (written
    ≡ lines_from 0 (take k (stream_answers o stream))
    ++ end_line (codes "fault " ++ kind_name kind))

-- ---- the end of a run

-- the line that states how a run ended
abbrev pub ending_line : RunEnd → List ℕ
ending_line end.Limit = end_line (codes "limit")
ending_line end.Done = end_line (codes "done")
ending_line end.CutHeader = end_line (codes "cut")
ending_line (end.Fault e) = end_line (codes "fault " ++ kind_name (kind_of e))

-- the outcome of a run that ended so, by whether a record was refused
abbrev pub ending_outcome : RunEnd → (refused : Bool) → Outcome
ending_outcome end.Limit refused = if refused then Refused else Clean
ending_outcome end.Done refused = if refused then Refused else Clean
ending_outcome end.CutHeader refused = Refused
ending_outcome (end.Fault e) refused = Faulted

-- ---- what an outcome specifies

-- a whole text, with a fault or without
abbrev pub IsText : (can_fault : Bool) → Order → ℕ → Stream → List ℕ → Type 0
IsText can_fault o limit stream written =
    (written ≡ stream_text o limit stream) ⊎ IsFaultText can_fault o limit stream written

-- the text without a fault, if this is its outcome
abbrev pub IsTextOf : Order → ℕ → Stream → Outcome → List ℕ → Type 0
IsTextOf o limit stream outcome written =
    (written ≡ stream_text o limit stream) × (stream_outcome o limit stream ≡ outcome)

-- What was written of a stream, by the outcome of its run, and by whether the buffer can fault.
abbrev pub IsWritten : (can_fault : Bool) → Order → ℕ → Stream → Outcome → List ℕ → Type 0
IsWritten can_fault o limit stream Clean written = IsTextOf o limit stream Clean written
IsWritten can_fault o limit stream Refused written = IsTextOf o limit stream Refused written
IsWritten can_fault o limit stream BadAttr written = IsTextOf o limit stream BadAttr written
IsWritten can_fault o limit stream Faulted written = IsFaultText can_fault o limit stream written
IsWritten can_fault o limit stream Stopped written =
    (whole : List ℕ) × IsText can_fault o limit stream whole × StartsWith whole written

-- What such a run writes was appended to the writer, if its bytes are known. A reader can fault.
abbrev pub Writes : Order → ℕ → Stream → Outcome → (old new : Option (List ℕ)) → Type 0
Writes o limit stream outcome old new =
    (written : List ℕ) × Appends old new written × IsWritten true o limit stream outcome written
