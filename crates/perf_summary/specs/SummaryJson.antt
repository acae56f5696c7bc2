-- The summary of a file as JSON.
use Rattle.std.specs.Prelude.{ℕ, zero, suc, ◌==◌, true, List, [], ◌∷◌, ◌++◌, codes, length, map, count_by, Option, Some, None, Result, Ok, Err, if◌then◌else◌}
use Rattle.std.specs.List.{enumerate_from}
use Rattle.serde_json.specs.Data.{Data, null, boolean, string, object, member, no_members}
use Rattle.serde_json.specs.Written.{compact_text}
use Rattle.perf_file.specs.FeatureTexts.{text_of, command_line_of}
use Rattle.perf_sections.specs.Names.{Name, name_text}
use Rattle.perf_sections.specs.Opened.{File, FileEvent}
use Rattle.perf_file.specs.declared.feature.BadFeature.{BadFeature}
use Rattle.perf_data_text.specs.HeaderText.{printed}
use Rattle.perf_summary.specs.Contents.{all_contents}
use Rattle.perf_summary.specs.Counts.{is_refused, event_count, of_event, type_count, other_count}
use Rattle.perf_summary.specs.Datas.{count_data, list_data, number_data}
use Rattle.perf_summary.specs.ThreadText.{threads_data}
use Rattle.perf_summary.specs.TypeNames.{type_name}
use Rattle.perf_summary.specs.declared.threads.Thread.{Thread}
use Rattle.perf_summary.specs.declared.contents.Contents.{Contents}
use Rattle.perf_summary.specs.declared.counts.EventCount.{EventCount}

-- ---- the machine and the command

-- bytes, as they are printed
abbrev pub printed_data : List ℕ → Data
printed_data bytes = string (printed bytes)

-- the words of the command
abbrev pub words_data : List (List ℕ) → Data
words_data words = list_data (map printed_data words)

-- what a file has that cannot be read
abbrev pub refused_data : Data
refused_data = object (member (codes "refused") (boolean true) no_members)

-- a feature: what it states, `null` if the file does not have it, or that it cannot be read
abbrev pub feature_data : {A : Type 0} → (A → Data) → Result (Option A) BadFeature → Data
feature_data stated (Ok (Some x)) = stated x
feature_data stated (Ok None) = null
feature_data stated (Err e) = refused_data

-- ---- counts

-- the counts of an event, and its name
abbrev pub event_data : EventCount → (name : List ℕ) → Data
event_data c name = object
    (member (codes "first") (number_data c.first)
    (member (codes "last") (number_data c.last)
    (member (codes "lost") (count_data c.lost)
    (member (codes "name") (string name)
    (member (codes "period") (count_data c.period)
    (member (codes "refused") (count_data c.refused)
    (member (codes "samples") (count_data c.samples)
    no_members)))))))

-- those of events, numbered from a first number, by the name and the counts of each
abbrev pub events_data : (naming : ℕ → FileEvent → Name) → (counts : ℕ → EventCount) → ℕ → List FileEvent → List Data
events_data naming counts first events =
    map (λ numbered. event_data (counts numbered.0) (name_text (naming numbered.0 numbered.1))) (enumerate_from first events)

-- a type that a frame has: how many have it, its name, and its number, `null` for several others
abbrev pub type_object : (count : ℕ) → (name : List ℕ) → (ty : Option ℕ) → Data
type_object count name ty = object
    (member (codes "frames") (count_data count)
    (member (codes "name") (string name)
    (member (codes "type") (number_data ty)
    no_members)))

-- a type, or none if no frame has it
abbrev pub type_data : (ty count : ℕ) → List Data
type_data ty count = if count == 0 then [] else type_object count (type_name ty) (Some ty) ∷ []

-- the types below a number
abbrev pub types_data : (counts : ℕ → ℕ) → ℕ → List Data
types_data counts zero = []
types_data counts (suc ty) = types_data counts ty ++ type_data ty (counts ty)

-- all other types
abbrev pub other_data : (count : ℕ) → List Data
other_data count = if count == 0 then [] else type_object count (codes "other") None ∷ []

-- ---- all

-- the object of these parts
abbrev pub parts_data : (command_line : Data) (events : List Data) (frames : ℕ) (hostname os_release : Data) (refused : ℕ) (threads types : List Data) → Data
parts_data command_line events frames hostname os_release refused threads types = object
    (member (codes "command_line") command_line
    (member (codes "events") (list_data events)
    (member (codes "frames") (count_data frames)
    (member (codes "hostname") hostname
    (member (codes "os_release") os_release
    (member (codes "refused") (count_data refused)
    (member (codes "threads") (list_data threads)
    (member (codes "types") (list_data types)
    no_members))))))))

-- the summary of a file with these bytes, whose events have these names, whose frames add this, and with
-- these threads
abbrev pub summary_data : File → (bytes : List ℕ) → (naming : ℕ → FileEvent → Name) → List Contents → List ((ℕ × ℕ) × Thread) → Data
summary_data f bytes naming xs threads =
    parts_data (feature_data words_data (command_line_of f.order bytes))
    (events_data naming (λ n. event_count (of_event n xs)) 0 f.events)
    (length xs)
    (feature_data printed_data (text_of f.order bytes 3))
    (feature_data printed_data (text_of f.order bytes 4))
    (count_by is_refused xs)
    (threads_data threads)
    (types_data (λ ty. type_count ty xs) 128 ++ other_data (other_count xs))

-- its text: one line
abbrev pub json_text : File → (bytes : List ℕ) → (naming : ℕ → FileEvent → Name) → List ((ℕ × ℕ) × Thread) → List ℕ
json_text f bytes naming threads = compact_text (summary_data f bytes naming (all_contents f) threads) ++ codes "\n"
