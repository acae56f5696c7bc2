-- The stack of a sample.
use Rattle.std.specs.Prelude.{ℕ, ◌==◌, List, [], ◌∷◌, ◌++◌, length, nat_lt, map, if◌then◌else◌}
use Rattle.std.specs.List.{flat_map}
use Rattle.perf_base.specs.Attribute.{or_zero}
use Rattle.perf_flame.specs.Stacks.{clean, frame_text}
use Rattle.perf_flame.specs.Names.{frame_name, thread_name}
use Rattle.perf_flame.specs.declared.names.Frames.{Frames}
use Rattle.perf_history.specs.Histories.{name_of, place_of}
use Rattle.perf_history.specs.Modes.{mode_of}
use Rattle.perf_history.specs.declared.changes.Change.{Change}
use Rattle.perf_sample_types.specs.Sample.{SampleValue}
use Rattle.perf_sample_types.specs.SampleGetters.{getters_of}
use Rattle.perf_walk.specs.Calls.{call, calls_of}
use Rattle.perf_walk.specs.declared.calls.Call.{Call}
use Rattle.perf_walk.specs.declared.sampling.Sample.{Sample}
use Rattle.perf_fold.specs.EventLabels.{EventLabel, label_at}

-- these calls, or that one if there are none
abbrev pub or_call : List Call → Call → List Call
or_call calls c = if length calls == 0 then c ∷ [] else calls

-- the calls of a sample, the innermost first: those of its chain, or that of its instruction
abbrev pub sample_calls : (misc : ℕ) → SampleValue → List Call
sample_calls misc s = or_call (calls_of s) (call (mode_of misc) (or_zero (getters_of s).ip))

-- the frame of a call in a process
abbrev pub call_text : Frames → (pid : ℕ) → (known : List Change) → Call → List ℕ
call_text frames pid known c = frame_text (frame_name frames c.mode c.address (place_of known pid c.mode c.address))

-- those of calls
abbrev pub calls_text : Frames → (pid : ℕ) → (known : List Change) → List Call → List ℕ
calls_text frames pid known calls = flat_map (call_text frames pid known) calls

-- the frame of an event, if the file has several
abbrev pub event_text : List EventLabel → (event : ℕ) → List ℕ
event_text labels event = if nat_lt 1 (length labels) then frame_text (label_at labels event).name else []

-- the stack of a sample with these calls, the outermost first: the name of its thread, its event if
-- there are several, and its calls
abbrev pub stack_text : Frames → List EventLabel → (event : ℕ) → (known : List Change) → Sample → List Call → List ℕ
stack_text frames labels event known s calls =
    map clean (thread_name (name_of known s.tid)) ++ event_text labels event ++ calls_text frames s.pid known calls
