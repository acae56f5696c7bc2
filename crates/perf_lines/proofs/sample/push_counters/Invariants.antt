use Rattle.std.proofs.Common.{◌≡◌, ◌++◌, string_bytes, codes}
use Rattle.std.specs.List.{flat_map}
use Rattle.perf_counters.specs.GroupIter.{entries_left}
use Rattle.perf_lines.specs.SampleText.{counter_item}
use Rattle.perf_lines.proofs.sample.push_counters.Given as goal

abbrev pub invariant-loop-entry : goal.invariant-loop-entry
invariant-loop-entry l =
    string_bytes l.text ++ flat_map (λ other. codes "," ++ counter_item other) (entries_left l.entry-iterator)
    ≡ string_bytes l.initial.text ++ flat_map (λ other. codes "," ++ counter_item other) (entries_left l.initial.entry-iterator)
