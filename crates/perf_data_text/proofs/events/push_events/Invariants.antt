use Rattle.std.proofs.Common.{◌≡◌, ◌++◌, take, string_bytes}
use Rattle.perf_data_text.specs.OwnNames.{own_lines}
use Rattle.perf_data_text.proofs.events.push_events.Given as goal

abbrev pub invariant-loop-index : goal.invariant-loop-index
invariant-loop-index l = string_bytes l.text ≡ string_bytes l.initial.text ++ own_lines 0 (take l.index l.list)
