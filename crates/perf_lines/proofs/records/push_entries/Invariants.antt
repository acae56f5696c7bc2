use Rattle.std.proofs.Common.{◌≡◌, ◌++◌, take, string_bytes, codes}
use Rattle.std.specs.List.{flat_map}
use Rattle.perf_lines.specs.Text.{namespace_item}
use Rattle.perf_lines.proofs.records.push_entries.Given as goal

abbrev pub invariant-loop-entry : goal.invariant-loop-entry
invariant-loop-entry l =
    string_bytes l.text ≡ string_bytes l.initial.text ++ flat_map (λ other. codes "," ++ namespace_item other) (take l.entry-index l.rest)
