-- The text of a recording.
use Rattle.std.specs.Prelude.{◌≡◌, ℕ, ◌%◌, ◌==◌, ◌||◌, not, Bool, List, [], ◌∷◌, ◌++◌, is_err, Option, Some, None, if◌then◌else◌}
use Rattle.std.specs.List.{list_any}
use Rattle.perf_base.specs.Configuration.{Configuration}
use Rattle.perf_base.specs.Dynamic.{order_of}
use Rattle.perf_base.specs.Header.{header_of}
use Rattle.perf_file.specs.Entries.{entries_of, IsInOrder}
use Rattle.perf_sections.specs.Names.{Name}
use Rattle.perf_sections.specs.Opened.{File, FileEvent, table_of}
use Rattle.perf_file.specs.declared.entries.Entry.{Entry}
use Rattle.perf_sections.specs.declared.ids.IdOfEvent.{IdOfEvent}
use Rattle.perf_flat.specs.Samples.{sample_present}
use Rattle.perf_history.specs.declared.changes.Change.{Change}
use Rattle.perf_records.specs.Answers.{answer_of_frame}
use Rattle.perf_sample_types.specs.Sample.{SampleValue}
use Rattle.perf_walk.specs.Calls.{calls_of}
use Rattle.perf_walk.specs.Filters.{takes_at}
use Rattle.perf_walk.specs.Moments.{Moment, moments}
use Rattle.perf_walk.specs.Samples.{sample_of, sample_view}
use Rattle.perf_walk.specs.declared.filtering.Filter.{Filter}
use Rattle.perf_words.specs.Bits.{has_bit}
use Rattle.perf_script.specs.Counters.{readings_of, counters_text, read_after}
use Rattle.perf_script.specs.Labels.{EventLabel, label_at, labels_by, with_period}
use Rattle.perf_script.specs.Heads.{text_if}
use Rattle.perf_script.specs.SampleText.{Shown, sample_text}
use Rattle.perf_script.specs.SideBand.{line_at}
use Rattle.perf_script.specs.declared.fields.Fields.{Fields}
use Rattle.perf_script.specs.declared.fields.Style.{Style}
use Rattle.perf_script.specs.declared.readings.Reading.{Reading}

-- whether a sample was taken in a guest, in its kernel or in a process: modes 4 and 5
abbrev pub is_guest : (misc : ℕ) → Bool
is_guest misc = misc % 8 == 4 || misc % 8 == 5

-- what is shown of a sample whose frame has this misc
abbrev pub shown_of : Fields → Configuration → (misc : ℕ) → (hidden : Bool) → SampleValue → Shown
shown_of chosen c misc hidden s = record {
  chosen = chosen;
  fields = sample_present c;
  hidden = hidden;
  sample = sample_view misc s;
  calls = calls_of s;
}

-- the period of a sample: its own, or that of its event
abbrev pub period_of : EventLabel → Shown → ℕ
period_of label s = if has_bit s.fields 8 then s.sample.period else label.period

-- the text of a sample by itself
abbrev pub plain_text : List EventLabel → (event : ℕ) → List Change → Shown → List ℕ
plain_text labels event known s =
    sample_text (with_period (label_at labels event) (period_of (label_at labels event) s)) known s

-- whether a sample with these fields reads counters
abbrev pub has_counters : (fields : ℕ) → Bool
has_counters fields = has_bit fields 4

-- the text of a sample: if it reads counters, one for each that moved
abbrev pub shown_text : List EventLabel → List IdOfEvent → (older readings : List Reading) → (event : ℕ) → List Change → Shown → List ℕ
shown_text labels ids older readings event known s =
    if has_counters s.fields then counters_text labels ids known s older readings else plain_text labels event known s

-- the counters that were read by the end of a sample with these fields, the newest first
abbrev pub read_by : (older readings : List Reading) → (fields : ℕ) → List Reading
read_by older readings fields = if has_counters fields then read_after older readings else older

-- ---- of frames

-- the sample in a frame
abbrev pub sample_at : File → Moment → Option SampleValue
sample_at f m = sample_of m.config (order_of f.order) m.frame

-- the misc of a frame
abbrev pub misc_at : File → Moment → ℕ
misc_at f m = (header_of (order_of f.order) m.frame).misc

-- what is shown of a sample in a frame
abbrev pub shown_at : File → Fields → Moment → (hidden : Bool) → SampleValue → Shown
shown_at f chosen m hidden s = shown_of chosen m.config (misc_at f m) hidden s

-- How a text is made of a recording: how its events are labelled, which samples count, and which lines it
-- has.
pub record Choice : Type 0 where
  pub labels : List EventLabel
  pub filter : Filter
  pub style : Style

-- whether a sample has no text: it was taken in a guest, or does not count
abbrev pub is_hidden : File → Filter → Moment → SampleValue → Bool
is_hidden f w m s = is_guest (misc_at f m) || not (takes_at w m (misc_at f m) s)

-- the line of the record in a frame that is no sample, if it has one
abbrev pub side_at : File → Choice → Moment → List ℕ
side_at f c m = line_at c.style.fields (label_at c.labels m.event).fields m.known m.config (order_of f.order) m.frame

-- the text of the sample in a frame, or the line of another record, if it is chosen
abbrev pub text_at : File → Choice → (older : List Reading) → Moment → List ℕ
text_at f c older m = elim (sample_at f m) [
  | Some s ↦
      shown_text c.labels (table_of f.events) older (readings_of m.config.read_format s) m.event m.known
      (shown_at f c.style.fields m (is_hidden f c.filter m s) s)
  | None ↦ text_if c.style.side_band (side_at f c m)
]

-- the counters that were read by the end of a frame, whether its sample is hidden or not
abbrev pub read_at : File → (older : List Reading) → Moment → List Reading
read_at f older m = elim (sample_at f m) [ Some s ↦ read_by older (readings_of m.config.read_format s) (sample_present m.config) | None ↦ older ]

-- the text of frames, before which these counters were read
abbrev pub text_from : File → Choice → (older : List Reading) → List Moment → List ℕ
text_from f c older [] = []
text_from f c older (m ∷ ms) = text_at f c older m ++ text_from f c (read_at f older m) ms

-- whether a frame is refused
abbrev pub is_refused : File → Moment → Bool
is_refused f m = is_err (answer_of_frame m.config (order_of f.order) m.frame)

-- whether one of some frames is
abbrev pub any_refused : File → List Moment → Bool
any_refused f ms = list_any (is_refused f) ms

-- the text of the frames of these entries, of which some are refused or none
abbrev pub IsTextOf : File → Choice → List Entry → (refused : Bool) → List ℕ → Type 0
IsTextOf f c entries refused text =
    (refused ≡ any_refused f (moments f entries [])) × (text ≡ text_from f c [] (moments f entries []))

-- what is chosen by a style and a filter, where events are named so
abbrev pub choice_by : Style → Filter → (naming : ℕ → FileEvent → Name) → List FileEvent → Choice
choice_by style w naming events = record { labels = labels_by w naming events; filter = w; style = style }

-- the text of a file: that of its frames by time, and at equal times by place
abbrev pub IsText : Style → Filter → File → (naming : ℕ → FileEvent → Name) → (refused : Bool) → List ℕ → Type 0
IsText style w f naming refused text =
    (entries : List Entry) × IsInOrder (entries_of f) entries × IsTextOf f (choice_by style w naming f.events) entries refused text
