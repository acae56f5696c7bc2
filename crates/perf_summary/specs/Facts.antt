-- What the frames of a recording state about threads, in order of time.
use Rattle.std.specs.Prelude.{ℕ, List, [], ◌∷◌, Option, option_map, option_and_then}
use Rattle.std.specs.List.{cons_option}
use Rattle.perf_base.specs.Dynamic.{order_of}
use Rattle.perf_sections.specs.Opened.{File}
use Rattle.perf_file.specs.declared.entries.Entry.{Entry}
use Rattle.perf_history.specs.Histories.{name_of}
use Rattle.perf_history.specs.declared.changes.Change.{Change}
use Rattle.perf_walk.specs.Moments.{Moment, moment_at, known_after}
use Rattle.perf_walk.specs.Plain.{plain_name}
use Rattle.perf_summary.specs.Subjects.{subject_of}
use Rattle.perf_summary.specs.declared.facts.Fact.{Fact}
use Rattle.perf_summary.specs.declared.subjects.Subject.{Subject}

-- a fact, whose name is known by its bytes alone
abbrev pub plain_fact : Fact → Fact
plain_fact x = record x { name = plain_name x.name }

-- what is stated about a thread at a time, when these changes are known: also its name by then
abbrev pub fact : (time : ℕ) → (known : List Change) → Subject → Fact
fact time known s = record { who = (s.pid, s.tid); kind = s.kind; time = time; name = name_of known s.tid }

-- what the frame of an entry states about a thread, if it is about one
abbrev pub fact_of : File → Entry → Moment → Option Fact
fact_of f e m = option_map (fact e.time m.known) (subject_of m.config (order_of f.order) m.frame)

-- the same of an entry before which these changes are known, if it has a frame
abbrev pub fact_at : File → Entry → (older : List Change) → Option Fact
fact_at f e older = option_and_then (fact_of f e) (moment_at f e older)

-- what the frames of entries state, before which these changes are known
abbrev pub facts : File → List Entry → (older : List Change) → List Fact
facts f [] older = []
facts f (e ∷ es) older = cons_option (fact_at f e older) (facts f es (known_after f e older))
