use Rattle.std.proofs.Common.{◌≡◌, ◌++◌, take, codes, string_bytes}
use Rattle.std.specs.List.{flat_map}
use Rattle.perf_reports.specs.TaskLines.{namespace}
use Rattle.perf_reports.proofs.tasks.push_others.Given as goal

abbrev pub invariant-loop-entry : goal.invariant-loop-entry
invariant-loop-entry l = string_bytes l.text ≡ string_bytes l.initial.text ++ flat_map (λ entry. codes "," ++ namespace entry) (take l.entry-index l.others)
