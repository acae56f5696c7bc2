-- What is printed of a record, and how much of that was written.
use Rattle.std.specs.Prelude.{◌≡◌, ℕ, Bool, true, false, List, [], ◌++◌, Option, Some, None, ⊤, codes, if◌then◌else◌}
use Rattle.std.specs.Prelude.{Result, Ok, Err}
use Rattle.std.specs.List.{flat_map}
use Rattle.std.specs.Io.KnownBytes.{Appends}
use Rattle.anyhow.specs.Error.{HasMessage, IsMadeOf}
use Rattle.anyhow.specs.declared.error.Error.{Error}
use Rattle.perf_base.specs.Errors.{error_text, kind_of, of_layout}
use Rattle.perf_base.specs.declared.sys.perf_event_header.{perf_event_header}
use Rattle.perf_base.specs.declared.error.ErrorKind.{ErrorKind}
use Rattle.perf_base.specs.declared.error.ParseError.{ParseError}
use Rattle.perf_parser.specs.declared.run.RunEnd.{RunEnd}
use Rattle.perf_parser.specs.declared.run.RunEnd.TheVariants as end
use Rattle.perf_records.specs.Records.{RecordValue, record_value, sample_is, sample_value}
use Rattle.perf_reports.specs.declared.printing.Found.{Found}
use Rattle.perf_reports.specs.declared.printing.Found.TheVariants as found
use Rattle.perf_reports.specs.declared.printing.Report.{Report}
use Rattle.perf_reports.specs.declared.printing.Report.TheVariants.{Tasks, Samples}
use Rattle.perf_reports.specs.declared.printing.Stopped.{Stopped}
use Rattle.perf_reports.specs.declared.printing.Stopped.TheVariants.{Memory, Frame, Output}
use Rattle.perf_reports.specs.SampleLines as samples
use Rattle.perf_reports.specs.TaskLines as tasks

-- the record of what was found in a frame
abbrev pub found_value : Found → RecordValue
found_value (found.Record it) = record_value it.now
found_value (found.Sample it) = sample_is (sample_value it.now)

-- the line of a record in a report, if it has one
abbrev pub report_line : Report → RecordValue → Option (List ℕ)
report_line Tasks r = tasks.task_line_of r
report_line Samples r = samples.sample_line_of r

-- a line with a line feed after it, or nothing
abbrev pub with_feed : Option (List ℕ) → List ℕ
with_feed (Some line) = line ++ codes "\n"
with_feed None = []

-- what is printed of a record
abbrev pub text_of_record : Report → RecordValue → List ℕ
text_of_record report r = with_feed (report_line report r)

-- what is printed of the result of a frame: nothing if it was refused
abbrev pub printed_answer : Report → perf_event_header × Result RecordValue ErrorKind → List ℕ
printed_answer report (header, Ok r) = text_of_record report r
printed_answer report (header, Err e) = []

-- what is printed of results, in order
abbrev pub printed_answers : Report → List (perf_event_header × Result RecordValue ErrorKind) → List ℕ
printed_answers report answers = flat_map (printed_answer report) answers

-- known bytes that were written, and those that wait to be written after them, grew by a text
abbrev pub Grows : (old new : Option (List ℕ)) (waited waits text : List ℕ) → Type 0
Grows None new waited waits text = ⊤
Grows (Some xs) None waited waits text = ⊥
Grows (Some xs) (Some ys) waited waits text = ys ++ waits ≡ xs ++ (waited ++ text)

-- known bytes grew by a prefix of a text, and the rest of that text is left
abbrev pub GrowsWithin : (old new : Option (List ℕ)) (text : List ℕ) → Type 0
GrowsWithin old new text =
    (written : List ℕ) × (left : List ℕ) × (written ++ left ≡ text) × Appends old new written

-- ---- errors

-- the error that is printed for the result of a frame: if it was refused its text and a line feed
abbrev pub error_line : perf_event_header × Result RecordValue ParseError → List ℕ
error_line (header, Ok r) = []
error_line (header, Err e) = error_text e ++ codes "\n"

-- the same of results, in order
abbrev pub error_lines : List (perf_event_header × Result RecordValue ParseError) → List ℕ
error_lines answers = flat_map error_line answers

-- whether printing stopped because memory ran out
abbrev pub is_memory : Stopped → Bool
is_memory (Memory e) = true
is_memory Frame = true
is_memory (Output e) = false

-- the error if no frames follow the last one that a run read, and the recording does not end there
abbrev pub StopsReading : RunEnd → Error → Type 0
StopsReading end.Limit why = ⊥
StopsReading end.Done why = ⊥
StopsReading end.CutHeader why = HasMessage (Some (codes "the input ends inside a header")) why
StopsReading (end.Fault e) why = IsMadeOf (Some (error_text e)) why

-- the message of an error that an attribute at the start was refused with: bytes that are no
-- attribute may be a file of perf record
abbrev pub attribute_message : ParseError → List ℕ
attribute_message e = if of_layout (kind_of e)
    then codes "the input does not begin with an attribute; if it is a file of `perf record`, use perf_data"
    else error_text e
