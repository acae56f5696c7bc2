-- What a printer prints of the frames that are handed to it.
use Rattle.std.specs.Prelude.{◌≡◌, ◌≤◌, ◌&&◌, ℕ, Bool, true, false, List, [], ◌∷◌, ◌++◌, length, map, take}
use Rattle.std.specs.Prelude.{Option, Some}
use Rattle.std.specs.Prelude.{IsTrue, Result, Ok, Err, is_ok, string_bytes, drop}
use Rattle.std.specs.List.{list_all}
use Rattle.std.specs.Io.KnownBytes.{Appends}
use Rattle.perf_base.specs.Configuration.{Configuration, configured_by}
use Rattle.perf_base.specs.Order.{Order, little}
use Rattle.perf_base.specs.Refusals.{error_kinds}
use Rattle.perf_base.specs.declared.error.ErrorKind.{ErrorKind}
use Rattle.perf_base.specs.declared.error.ParseError.{ParseError}
use Rattle.perf_base.specs.declared.sys.perf_event_attr.{perf_event_attr}
use Rattle.perf_base.specs.declared.sys.perf_event_header.{perf_event_header}
use Rattle.perf_reader.specs.ReaderState.{ReaderState}
use Rattle.perf_buffers.specs.Buffer.{chunk_bytes}
use Rattle.perf_records.specs.Answers.{answer_after, answers}
use Rattle.perf_records.specs.Frames.{stream_end, done}
use Rattle.perf_records.specs.Records.{RecordValue}
use Rattle.perf_records.specs.Sights.{Sight}
use Rattle.perf_records.specs.declared.frame.Frame.{Frame}
use Rattle.perf_parser.specs.Runs.{EndsWith}
use Rattle.perf_parser.specs.declared.run.RunEnd.{RunEnd}
use Rattle.perf_reports.specs.Counting.{attribute_in, sight_header, sight_answer}
use Rattle.perf_reports.specs.Printing.{printed_answers, error_lines, Grows, GrowsWithin, is_memory}
use Rattle.perf_reports.specs.declared.frame_printer.FramePrinter.{FramePrinter}
use Rattle.perf_reports.specs.declared.printing.Report.{Report}
use Rattle.perf_reports.specs.declared.printing.Stopped.{Stopped}

-- the header of a frame, and its result
abbrev pub Answered : Type 0
Answered = perf_event_header × Result RecordValue ErrorKind

-- results with the kinds of their errors
abbrev pub by_kinds : List (perf_event_header × Result RecordValue ParseError) → List Answered
by_kinds told = map (λ pair. (pair.0, error_kinds pair.1)) told

-- for each refused frame the text of an error of its kind and a line feed were appended, in order
abbrev pub TellsErrors : (old new : Option (List ℕ)) → List Answered → Type 0
TellsErrors old new answers =
    (told : List (perf_event_header × Result RecordValue ParseError)) × (by_kinds told ≡ answers)
    × Appends old new (error_lines told)

-- whether no frame is refused
abbrev pub all_clean : List Answered → Bool
all_clean answers = list_all (λ pair. is_ok pair.1) answers

-- what a printer has done after results that did not stop it, if its outputs contain these bytes
pub record Prints {W E : Type 0} (out : W → Option (List ℕ)) (err : E → Option (List ℕ))
    (was : FramePrinter W E) (answers : List Answered) (now : FramePrinter W E) : Type 0 where
  -- it prints the same report
  pub report : now.report ≡ was.report
  -- the lines of the results were written, or are gathered
  pub grown : Grows (out was.output) (out now.output) (string_bytes was.lines.gathered)
      (string_bytes now.lines.gathered) (printed_answers was.report answers)
  -- only a prefix of the lines was written
  pub part : GrowsWithin (out was.output) (out now.output)
      (string_bytes was.lines.gathered ++ printed_answers was.report answers)
  -- the errors were written
  pub told : TellsErrors (err was.errors) (err now.errors) answers
  -- whether one was refused is known
  pub clean : now.clean ≡ (was.clean && all_clean answers)

-- the result of a whole frame
abbrev pub frame_answer : Configuration → Order → Frame → Answered
frame_answer c o frame = (frame.header, answer_after c o frame.header (chunk_bytes frame.rest))

-- what a printer has done when it stops at a frame
pub record StopsPrinting {W E : Type 0} (out : W → Option (List ℕ)) (err : E → Option (List ℕ))
    (was : FramePrinter W E) (answer : Answered) (why : Stopped) (now : FramePrinter W E)
    : Type 0 where
  -- only a prefix of the lines was written
  pub part : GrowsWithin (out was.output) (out now.output)
      (string_bytes was.lines.gathered ++ printed_answers was.report (answer ∷ []))
  -- after a failed allocation all lines before it were written, and no error
  pub refused : IsTrue (is_memory why) → Appends (out was.output) (out now.output)
      (string_bytes was.lines.gathered) × (err now.errors ≡ err was.errors)

-- a printer printed the result of a frame, or stopped at it
abbrev pub PrintsAnswer : {W E : Type 0} → (W → Option (List ℕ)) → (E → Option (List ℕ)) →
    FramePrinter W E → Answered → Result (Unit {0}) Stopped → FramePrinter W E → Type 0
PrintsAnswer out err was answer (Ok x) now = Prints out err was (answer ∷ []) now
PrintsAnswer out err was answer (Err why) now = StopsPrinting out err was answer why now

-- the result of what a printer is handed
abbrev pub sight_pair : Configuration → Order → Sight → Answered
sight_pair c o sight = (sight_header sight, sight_answer c o sight)

-- A printer was handed a frame, and returned whether the run goes on. If so, the frame was printed,
-- once; if not, the printer keeps why it stopped there.
abbrev pub PrintsSight : {W E : Type 0} → (W → Option (List ℕ)) → (E → Option (List ℕ)) →
    FramePrinter W E → Configuration → Order → Sight → Bool → FramePrinter W E → Type 0
PrintsSight out err was c o sight true now =
    Prints out err was (sight_pair c o sight ∷ []) now
PrintsSight out err was c o sight false now =
    (why : Stopped) × (now.stopped ≡ Some why)
    × StopsPrinting out err was (sight_pair c o sight) why now

-- the results of the frames that a parser has not read yet
abbrev pub answers_left : ReaderState → List Answered
answers_left m = answers m.settings m.order m.source.left

-- All lines and errors of the first k results were written, after the lines that were gathered.
abbrev pub PrintsFirst : {W E : Type 0} → (W → Option (List ℕ)) → (E → Option (List ℕ)) →
    FramePrinter W E → List Answered → (k : ℕ) → FramePrinter W E → Type 0
PrintsFirst out err was answers k now =
    Appends (out was.output) (out now.output)
    (string_bytes was.lines.gathered ++ printed_answers was.report (take k answers))
    × TellsErrors (err was.errors) (err now.errors) (take k answers)

-- A run printed the first results of what a parser has not read yet, and all their lines were
-- written: how it ended, and what it left.
abbrev pub PrintsRun : {W E : Type 0} → (W → Option (List ℕ)) → (E → Option (List ℕ)) →
    FramePrinter W E → ReaderState → (limit : ℕ) → RunEnd → (left : List ℕ) → FramePrinter W E → Type 0
PrintsRun out err was old limit e left now =
    (k : ℕ) × PrintsFirst out err was (answers_left old) k now
    × (now.report ≡ was.report)
    × (now.clean ≡ (was.clean && all_clean (take k (answers_left old))))
    × EndsWith old.order limit old.source.left k e left
    × (k ≤ length (answers_left old))

-- All that a parser has not read yet was printed, and the bytes end after a frame: every line and
-- every error was written, and it is known whether no frame was refused.
pub record PrintsAll {W E : Type 0} (out : W → Option (List ℕ)) (err : E → Option (List ℕ))
    (was : FramePrinter W E) (old : ReaderState) (result : Bool) (now : FramePrinter W E)
    : Type 0 where
  pub lines : Appends (out was.output) (out now.output)
      (string_bytes was.lines.gathered ++ printed_answers was.report (answers_left old))
  pub told : TellsErrors (err was.errors) (err now.errors) (answers_left old)
  pub clean : result ≡ (was.clean && all_clean (answers_left old))
  pub end : stream_end old.order old.source.left ≡ done

-- ---- a recording

-- the results of a recording's frames: those after its attribute, under the configuration of that
abbrev pub recording_answers : List ℕ → List Answered
recording_answers bytes = elim (attribute_in little bytes) [
  | Ok attr ↦ answers (configured_by attr) little (drop attr.size bytes)
  | Err e ↦ []
]

-- The lines of a recording were printed: it begins with an attribute and ends after a frame, its
-- lines were written, and it is known whether no frame was refused.
abbrev pub PrintsLines : Report → (bytes : List ℕ) → (output : Option (List ℕ)) → Bool →
    (output_after : Option (List ℕ)) → Type 0
PrintsLines report bytes output clean output_after =
    (attr : perf_event_attr) × (attribute_in little bytes ≡ Ok attr)
    × (stream_end little (drop attr.size bytes) ≡ done)
    × Appends output output_after (printed_answers report (recording_answers bytes))
    × (clean ≡ all_clean (recording_answers bytes))

-- A recording was printed: its lines were, and its errors were written.
abbrev pub PrintsRecording : Report → (bytes : List ℕ) → (output errors : Option (List ℕ)) →
    Bool → (output_after errors_after : Option (List ℕ)) → Type 0
PrintsRecording report bytes output errors clean output_after errors_after =
    PrintsLines report bytes output clean output_after
    × TellsErrors errors errors_after (recording_answers bytes)
