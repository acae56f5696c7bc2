-- A text that is being made.
use Rattle.std.specs.Prelude.{◌≡◌, ℕ, Bool, List, [], ◌++◌, ◌||◌, true, false, map}
use Rattle.perf_sections.specs.IdTables.{event_of}
use Rattle.perf_sections.specs.Opened.{File, table_of}
use Rattle.perf_file.specs.Views.{view}
use Rattle.perf_file.specs.declared.entries.Entry.{Entry}
use Rattle.perf_file.specs.declared.opening.Recording.{Recording}
use Rattle.perf_history.specs.declared.changes.Change.{Change}
use Rattle.perf_sample_types.specs.Sample.{SampleValue}
use Rattle.perf_walk.specs.Calls.{calls_of}
use Rattle.perf_walk.specs.Moments.{Moment, moments}
use Rattle.perf_walk.specs.Plain.{IsPast}
use Rattle.perf_walk.specs.declared.sampling.Sample.{Sample}
use Rattle.perf_words.specs.Bits.{has_bit}
use Rattle.perf_script.specs.Counted.{IsCounted}
use Rattle.perf_script.specs.Counters.{readings_of}
use Rattle.perf_script.specs.Ids.{finds}
use Rattle.perf_script.specs.Labels.{EventLabel, label_view}
use Rattle.perf_script.specs.SampleText.{Shown}
use Rattle.perf_script.specs.ScriptText.{Choice, text_at, text_from, read_at, is_refused, any_refused}
use Rattle.perf_script.specs.declared.fields.Fields.{Fields}
use Rattle.perf_script.specs.declared.readings.Reading.{Reading}
use Rattle.perf_script.specs.declared.script.Events.{Events}
use Rattle.perf_script.specs.declared.script.Script.{Script}
use Rattle.perf_script.specs.declared.script.State.{State}

-- the events of a file have these labels, and are found by their ids
pub record AreEvents (f : File) (all : List EventLabel) (events : Events) : Type 0 where
  pub labels : map label_view events.labels.items ≡ all
  pub ids : (id : ℕ) → finds events.ids id ≡ event_of (table_of f.events) id

-- the same, these samples count, and these lines are there
pub record AreChosen (f : File) (c : Choice) (events : Events) : Type 0 where
  pub labelled : AreEvents f c.labels events
  pub filter : events.filter ≡ c.filter
  pub style : events.style ≡ c.style

-- what is shown of a sample by the parts that were found
abbrev pub shown_by : State → Fields → (fields : ℕ) → (hidden : Bool) → Sample → Shown
shown_by state chosen fields hidden sample = record { chosen = chosen; fields = fields; hidden = hidden; sample = sample; calls = state.calls.items }

-- the parts of a sample were found
pub record HasParts (read_format : ℕ) (s : SampleValue) (fields : ℕ) (state : State) : Type 0 where
  pub calls : state.calls.items ≡ calls_of s
  pub readings : has_bit fields 4 ≡ true → state.readings.items ≡ readings_of read_format s

-- a text of a recording was begun
pub record IsBegun (r : Recording) (script : Script) : Type 0 where
  pub recording : script.walk.recording.now ≡ r
  pub past : IsPast script.walk.history []
  pub counted : IsCounted script.state.known []
  pub text : script.text.items ≡ []
  pub refused : script.refused ≡ false

-- the text of a frame was appended to one
pub record Pushes (f : File) (c : Choice) (m : Moment) (older : List Reading) (old new : Script) : Type 0 where
  pub counted : IsCounted new.state.known (read_at f older m)
  pub text : new.text.items ≡ old.text.items ++ text_at f c older m
  pub refused : new.refused ≡ (old.refused || is_refused f m)

-- the frames of these entries are left of a text, and of the question whether any is refused
pub record IsUnderWay (f : File) (c : Choice) (left : List Entry) (any : Bool) (whole : List ℕ) (script : Script) : Type 0 where
  pub known : List Change
  pub older : List Reading
  pub recording : view script.walk.recording.now ≡ f
  pub past : IsPast script.walk.history known
  pub counted : IsCounted script.state.known older
  pub text : script.text.items ++ text_from f c older (moments f left known) ≡ whole
  pub refused : (script.refused || any_refused f (moments f left known)) ≡ any
