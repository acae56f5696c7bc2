-- Counters that are read in samples.
use Rattle.std.specs.Prelude.{ℕ, ◌==◌, not, List, [], ◌∷◌, ◌++◌, map, Bool, true, false, Option, Some, None, option_map, option_to_list}
use Rattle.perf_base.specs.Attribute.{or_zero}
use Rattle.perf_sections.specs.IdTables.{event_of}
use Rattle.perf_sections.specs.declared.ids.IdOfEvent.{IdOfEvent}
use Rattle.perf_history.specs.declared.changes.Change.{Change}
use Rattle.perf_sample_types.specs.Sample.{SampleValue}
use Rattle.perf_sample_types.specs.SampleGetters.{getters_of}
use Rattle.perf_counters.specs.ReadFormat.{has_group}
use Rattle.perf_counters.specs.ReadGroup.{GroupRead, only_entry}
use Rattle.perf_counters.specs.declared.group_entry.GroupEntry.{GroupEntry}
use Rattle.perf_script.specs.Labels.{EventLabel, label_at, with_period}
use Rattle.perf_script.specs.Moved.{moved}
use Rattle.perf_script.specs.Heads.{text_if}
use Rattle.perf_script.specs.SampleText.{Shown, sample_text}
use Rattle.perf_script.specs.declared.readings.Reading.{Reading}

-- a counter that was read: its id, and its value
abbrev pub reading_of : GroupEntry → Reading
reading_of e = record { id = or_zero e.id; value = e.value }

-- the counters of a read: those of a group, or the one
abbrev pub readings_in : (group : Bool) → GroupRead → List Reading
readings_in true read = map reading_of read.entries
readings_in false read = option_to_list (option_map reading_of (only_entry read.entries))

-- the counters that a sample has read in a format
abbrev pub readings_of : (read_format : ℕ) → SampleValue → List Reading
readings_of read_format s = elim (getters_of s).values [ Some read ↦ readings_in (has_group read_format) read | None ↦ [] ]

-- the text of a counter that moved so far, under the label of its own event
abbrev pub moved_text : List EventLabel → List Change → Shown → (event : Option ℕ) → (far : ℕ) → List ℕ
moved_text labels known s (Some n) far = text_if (not (far == 0)) (sample_text (with_period (label_at labels n) far) known s)
moved_text labels known s None far = []

-- that of a counter, before which these were read
abbrev pub counter_text : List EventLabel → List IdOfEvent → List Change → Shown → (older : List Reading) → Reading → List ℕ
counter_text labels ids known s older r = moved_text labels known s (event_of ids r.id) (moved older r)

-- those of counters, one after another
abbrev pub counters_text : List EventLabel → List IdOfEvent → List Change → Shown → (older : List Reading) → List Reading → List ℕ
counters_text labels ids known s older [] = []
counters_text labels ids known s older (r ∷ rs) =
    counter_text labels ids known s older r ++ counters_text labels ids known s (r ∷ older) rs

-- what was read by then, the newest first
abbrev pub read_after : (older readings : List Reading) → List Reading
read_after older [] = older
read_after older (r ∷ rs) = read_after (r ∷ older) rs
