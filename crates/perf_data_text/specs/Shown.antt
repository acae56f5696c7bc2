-- What is written of a file.
use Rattle.std.specs.Prelude.{◌≡◌, ◌++◌, ℕ, Bool, false, List, take, Option, Result, Ok, Err, if◌then◌else◌}
use Rattle.std.specs.Io.KnownBytes.{Appends}
use Rattle.perf_lines.specs.Outcomes.{status_of}
use Rattle.perf_lines.specs.declared.outcome.Outcome.{Outcome}
use Rattle.perf_lines.specs.declared.outcome.Outcome.TheVariants as outcome
use Rattle.perf_file.specs.Forms.{opened, event_name}
use Rattle.perf_sections.specs.Names.{Name}
use Rattle.perf_sections.specs.Opened.{File, FileEvent}
use Rattle.perf_sections.specs.Opens.{Fails}
use Rattle.perf_file.specs.Pieces.{pieces_of}
use Rattle.perf_sections.specs.declared.error.OpenError.{OpenError}
use Rattle.perf_sections.specs.declared.error.OpenError.TheVariants as errors
use Rattle.perf_data_text.specs.EventText.{events_text}
use Rattle.perf_data_text.specs.DumpText.{IsTextOfPieces, IsTextByTime}
use Rattle.perf_data_text.specs.HeaderText.{header_text, is_refused}
use Rattle.perf_data_text.specs.declared.run.Show.{Show}
use Rattle.perf_data_text.specs.declared.run.Show.TheVariants as show

-- the text of what is shown of a file with these bytes and these names of its events, in which some
-- frames or features are refused or none
abbrev pub IsTextOf : Show → File → (bytes : List ℕ) → (naming : ℕ → FileEvent → Name) → (refused : Bool) → List ℕ → Type 0
IsTextOf show.Events f bytes naming refused text = (refused ≡ false) × (text ≡ events_text f naming)
IsTextOf show.EventsWithHeader f bytes naming refused text =
    (refused ≡ is_refused f.order bytes) × (text ≡ header_text f.order bytes ++ events_text f naming)
IsTextOf show.Dump f bytes naming refused text = IsTextOfPieces f (pieces_of f) refused text
IsTextOf show.DumpByTime f bytes naming refused text = IsTextByTime f refused text

-- the outcome of a text that could be written
abbrev pub outcome_of : Bool → Outcome
outcome_of refused = if refused then outcome.Refused else outcome.Clean

-- what was written of a text: all of it, or its beginning if writing failed
abbrev pub Writes : Outcome → (refused : Bool) → (text : List ℕ) → (old new : Option (List ℕ)) → Type 0
Writes outcome.Stopped refused text old new = (n : ℕ) × Appends old new (take n text)
Writes how refused text old new = (how ≡ outcome_of refused) × Appends old new text

-- what was written of a file that could be opened
abbrev pub WritesOf : Show → File → (bytes : List ℕ) → (naming : ℕ → FileEvent → Name) → Outcome → (old new : Option (List ℕ)) → Type 0
WritesOf what f bytes naming how old new =
    (refused : Bool) × (text : List ℕ) × IsTextOf what f bytes naming refused text × Writes how refused text old new

-- What was written of the bytes of a file: the text of what it contains, or nothing, if it cannot be
-- opened or memory runs out.
abbrev pub Shows : Show → List ℕ → Result Outcome OpenError → (old new : Option (List ℕ)) → Type 0
Shows what bytes (Ok how) old new = (f : File) × (opened bytes ≡ Ok f) × WritesOf what f bytes (event_name bytes f) how old new
Shows what bytes (Err e) old new = Fails e (opened bytes) × (new ≡ old)

-- the exit status: 2 if the file cannot be opened, 3 if memory runs out
abbrev pub status_after : Result Outcome OpenError → ℕ
status_after (Ok how) = status_of how
status_after (Err errors.OutOfMemory) = 3
status_after (Err e) = 2
