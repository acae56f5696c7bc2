use Rattle.std.proofs.Common.{◌≡◌, List, ◌++◌, drop}
use Rattle.perf_sections.specs.Opened.{File, table_of}
use Rattle.perf_history.specs.Recorded.{IsHistory}
use Rattle.perf_history.specs.declared.changes.Change.{Change}
use Rattle.perf_script.specs.Counted.{IsCounted}
use Rattle.perf_script.specs.Counters.{counters_text, read_after}
use Rattle.perf_script.specs.Labels.{EventLabel}
use Rattle.perf_script.specs.Seen.{shown_in}
use Rattle.perf_script.specs.UnderWay.{AreEvents}
use Rattle.perf_script.specs.declared.readings.Reading.{Reading}
use Rattle.perf_script.proofs.script.push_counters.Given as goal

abbrev pub invariant-loop-reading : goal.invariant-loop-reading
invariant-loop-reading l =
    (f : File) (all : List EventLabel) (changes : List Change) (older : List Reading) → AreEvents f all l.events → IsHistory l.history changes → IsCounted l.initial.known older
    → (now : List Reading) × IsCounted l.known now
    × (read_after now (drop l.reading-index l.readings) ≡ read_after older l.readings)
    × (l.text.items ++ counters_text all (table_of f.events) changes (shown_in l.shown) now (drop l.reading-index l.readings) ≡ l.initial.text.items ++ counters_text all (table_of f.events) changes (shown_in l.shown) older l.readings)
