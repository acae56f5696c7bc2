-- The text of a sample.
use Rattle.std.specs.Prelude.{ℕ, Bool, ◌&&◌, ◌||◌, not, List, [], ◌++◌, codes, if◌then◌else◌}
use Rattle.perf_history.specs.Histories.{place_of}
use Rattle.perf_history.specs.declared.changes.Change.{Change}
use Rattle.perf_walk.specs.declared.calls.Call.{Call}
use Rattle.perf_walk.specs.declared.sampling.Sample.{Sample}
use Rattle.perf_words.specs.Bits.{has_bit}
use Rattle.perf_columns.specs.Columns.{address_column, period_column}
use Rattle.perf_columns.specs.Files.{place_column_if}
use Rattle.perf_script.specs.Chains.{call_lines}
use Rattle.perf_script.specs.Heads.{head_columns, is_chained, text_if}
use Rattle.perf_script.specs.Labels.{EventLabel}
use Rattle.perf_script.specs.declared.fields.Fields.{Fields}
use Rattle.perf_script.specs.declared.heads.Head.{Head}

-- What is shown of a sample: which fields are chosen, which it has, by the bits of a sample type, whether
-- it has no text, its values, and the calls of its chain.
pub record Shown : Type 0 where
  pub chosen : Fields
  pub fields : ℕ
  pub hidden : Bool
  pub sample : Sample
  pub calls : List Call

-- what the columns at the front of its line are made of
abbrev pub head_of : Shown → Head
head_of s = record {
  chosen = s.chosen;
  fields = s.fields;
  chained = is_chained s.chosen s.fields;
  named = s.sample.tid;
  pid = s.sample.pid;
  tid = s.sample.tid;
  cpu = s.sample.cpu;
  time = s.sample.time;
}

-- the columns before the period
abbrev pub front_columns : List Change → Shown → List ℕ
front_columns known s = head_columns known (head_of s)

-- the address, and what is mapped there, if that is chosen
abbrev pub address_columns : List Change → Shown → List ℕ
address_columns known s =
    codes " " ++ (address_column s.sample.ip ++ place_column_if s.chosen.dso s.sample.mode (place_of known s.sample.pid s.sample.mode s.sample.ip))

-- the lines of the chain, after the end of the line before them
abbrev pub chain_lines : List Change → Shown → List ℕ
chain_lines known s = codes "\n" ++ call_lines s.chosen.dso known s.sample.pid s.calls

-- the address, or the lines of the chain
abbrev pub code_columns : List Change → Shown → List ℕ
code_columns known s = if has_bit s.fields 5 then chain_lines known s else address_columns known s

-- the same, if there is an address, and it is chosen
abbrev pub code_columns_if : List Change → Shown → List ℕ
code_columns_if known s = text_if (s.chosen.ip && has_bit s.fields 0) (code_columns known s)

-- the period, and the label of the event, each if it is chosen
abbrev pub event_columns : Fields → (label : List ℕ) → (period : ℕ) → List ℕ
event_columns chosen label period = text_if chosen.period (period_column period) ++ text_if chosen.event label

-- the end of the text
abbrev pub end_columns : List Change → Shown → List ℕ
end_columns known s = code_columns_if known s ++ codes "\n"

-- the text of a sample that is not hidden, with the label of its event, and a period
abbrev pub own_text : (label : List ℕ) → (period : ℕ) → List Change → Shown → List ℕ
own_text label period known s =
    front_columns known s ++ (event_columns s.chosen label period ++ end_columns known s)

-- the text of a sample under the label of its event: there is none if it is hidden, or samples of the
-- event do not count
abbrev pub sample_text : EventLabel → List Change → Shown → List ℕ
sample_text l known s = if s.hidden || not l.counts then [] else own_text l.text l.period known s
