use Rattle.std.proofs.Common.{◌≡◌, ◌++◌, take, string_bytes}
use Rattle.perf_summary.specs.OwnLines.{own_event_lines}
use Rattle.perf_summary.proofs.text.push_events.Given as goal

abbrev pub invariant-loop-index : goal.invariant-loop-index
invariant-loop-index l = string_bytes l.text ≡ string_bytes l.initial.text ++ own_event_lines l.counts 0 (take l.index l.events)
