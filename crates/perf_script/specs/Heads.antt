-- The columns at the front of a line.
use Rattle.std.specs.Prelude.{ℕ, Bool, ◌&&◌, List, [], ◌++◌, codes, if◌then◌else◌}
use Rattle.perf_history.specs.Histories.{name_of}
use Rattle.perf_history.specs.declared.changes.Change.{Change}
use Rattle.perf_words.specs.Bits.{has_bit}
use Rattle.perf_columns.specs.Columns.{task_column, cpu_column, time_column}
use Rattle.perf_columns.specs.Threads.{name_column}
use Rattle.perf_script.specs.declared.fields.Fields.{Fields}
use Rattle.perf_script.specs.declared.heads.Head.{Head}

-- a text, if it is there
abbrev pub text_if : Bool → List ℕ → List ℕ
text_if there text = if there then text else []

-- whether lines of a chain follow a sample with these fields: there are an address and a chain, and the
-- address is chosen
abbrev pub is_chained : Fields → (fields : ℕ) → Bool
is_chained chosen fields = chosen.ip && (has_bit fields 0 && has_bit fields 5)

-- the name of the thread
abbrev pub comm_column_if : List Change → Head → List ℕ
comm_column_if known h = text_if h.chosen.comm (name_column h.chained (name_of known h.named))

-- the thread: its name, and its numbers
abbrev pub thread_columns : List Change → Head → List ℕ
thread_columns known h = comm_column_if known h ++ task_column h.chosen.pid h.chosen.tid h.pid h.tid

-- the same, if it is known
abbrev pub thread_columns_if : List Change → Head → List ℕ
thread_columns_if known h = text_if (has_bit h.fields 1) (thread_columns known h)

-- the processor, if it is known and chosen
abbrev pub cpu_column_if : Head → List ℕ
cpu_column_if h = text_if (h.chosen.cpu && has_bit h.fields 7) (cpu_column h.cpu)

-- the time, if it is known and chosen
abbrev pub time_column_if : Head → List ℕ
time_column_if h = text_if (h.chosen.time && has_bit h.fields 2) (time_column h.time)

-- all of these
abbrev pub head_columns : List Change → Head → List ℕ
head_columns known h = thread_columns_if known h ++ (cpu_column_if h ++ time_column_if h)

-- the line of a record that is no sample: the columns, and its text
abbrev pub line_with : List Change → Head → (text : List ℕ) → List ℕ
line_with known h text = head_columns known h ++ (codes "PERF_RECORD_" ++ text)
