-- The summary of a file as lines of text.
use Rattle.std.specs.Prelude.{ℕ, zero, suc, ◌==◌, Bool, ◌||◌, not, List, [], ◌++◌, codes, decimal, is_err, length, count_by, if◌then◌else◌}
use Rattle.std.specs.List.{flat_map, enumerate_from}
use Rattle.perf_base.specs.declared.endian.Dynamic.{Dynamic}
use Rattle.perf_file.specs.FeatureTexts.{text_of, command_line_of}
use Rattle.perf_sections.specs.Names.{Name, name_text}
use Rattle.perf_sections.specs.Opened.{File, FileEvent}
use Rattle.perf_data_text.specs.HeaderText.{feature_lines, text_line, words_line}
use Rattle.perf_summary.specs.Contents.{all_contents}
use Rattle.perf_summary.specs.Counts.{is_refused, event_count, of_event, type_count, other_count}
use Rattle.perf_summary.specs.ThreadText.{threads_text}
use Rattle.perf_summary.specs.TypeNames.{type_name}
use Rattle.perf_summary.specs.Words.{time_text}
use Rattle.perf_summary.specs.declared.threads.Thread.{Thread}
use Rattle.perf_summary.specs.declared.contents.Contents.{Contents}
use Rattle.perf_summary.specs.declared.counts.EventCount.{EventCount}

-- ---- the machine and the command

-- the lines of the machine's name, of its kernel's release and of the command, in a file in that order
-- with these bytes
abbrev pub machine_text : Dynamic → List ℕ → List ℕ
machine_text order bytes =
    feature_lines (codes "hostname") (text_line (codes "hostname")) (text_of order bytes 3)
    ++ feature_lines (codes "os release") (text_line (codes "os release")) (text_of order bytes 4)
    ++ feature_lines (codes "cmdline") words_line (command_line_of order bytes)

-- whether one of them cannot be read
abbrev pub is_machine_refused : Dynamic → List ℕ → Bool
is_machine_refused order bytes =
    is_err (text_of order bytes 3) || is_err (text_of order bytes 4) || is_err (command_line_of order bytes)

-- ---- counts

-- the line of all frames: how many there are, and how many are refused
abbrev pub frames_line : (frames refused : ℕ) → List ℕ
frames_line frames refused =
    codes "file frames=" ++ (decimal frames ++ (codes " refused=" ++ (decimal refused ++ codes "\n")))

-- the number of an event, and the counts of its samples
abbrev pub samples_words : ℕ → EventCount → List ℕ
samples_words n c =
    codes "event " ++ decimal n
    ++ codes " samples=" ++ decimal c.samples
    ++ codes " period=" ++ decimal c.period
    ++ codes " first=" ++ time_text c.first
    ++ codes " last=" ++ time_text c.last

-- what was lost and refused of it
abbrev pub losses_words : EventCount → List ℕ
losses_words c = codes " lost=" ++ decimal c.lost ++ codes " refused=" ++ decimal c.refused

-- its line: also its name
abbrev pub event_line : ℕ → EventCount → (name : List ℕ) → List ℕ
event_line n c name = samples_words n c ++ losses_words c ++ (codes " " ++ name ++ codes "\n")

-- those of events, numbered from a first number, by the name and the counts of each
abbrev pub event_lines : (naming : ℕ → FileEvent → Name) → (counts : ℕ → EventCount) → ℕ → List FileEvent → List ℕ
event_lines naming counts first events =
    flat_map (λ numbered. event_line numbered.0 (counts numbered.0) (name_text (naming numbered.0 numbered.1))) (enumerate_from first events)

-- the line of a type: its number, how many frames have it, and its name; none if no frame has it
abbrev pub type_line : (ty count : ℕ) → List ℕ
type_line ty count =
    if count == 0 then []
    else codes "type " ++ decimal ty ++ codes " frames=" ++ decimal count ++ codes " " ++ type_name ty ++ codes "\n"

-- those of the types below a number
abbrev pub type_lines : (counts : ℕ → ℕ) → ℕ → List ℕ
type_lines counts zero = []
type_lines counts (suc ty) = type_lines counts ty ++ type_line ty (counts ty)

-- that of all other types
abbrev pub other_line : (count : ℕ) → List ℕ
other_line count = if count == 0 then [] else codes "type other frames=" ++ decimal count ++ codes "\n"

-- the lines of frames, by what each adds: of all, of each event, and of each type
abbrev pub counts_text : (naming : ℕ → FileEvent → Name) → List FileEvent → List Contents → List ℕ
counts_text naming events xs =
    frames_line (length xs) (count_by is_refused xs)
    ++ event_lines naming (λ n. event_count (of_event n xs)) 0 events
    ++ type_lines (λ ty. type_count ty xs) 128
    ++ other_line (other_count xs)

-- the summary of a file with these bytes, whose events have these names, and with these threads
abbrev pub summary_text : File → (bytes : List ℕ) → (naming : ℕ → FileEvent → Name) → List ((ℕ × ℕ) × Thread) → List ℕ
summary_text f bytes naming threads =
    machine_text f.order bytes ++ counts_text naming f.events (all_contents f) ++ threads_text threads

-- whether a frame or a feature in it is refused
abbrev pub is_any_refused : File → (bytes : List ℕ) → Bool
is_any_refused f bytes = is_machine_refused f.order bytes || not (count_by is_refused (all_contents f) == 0)
