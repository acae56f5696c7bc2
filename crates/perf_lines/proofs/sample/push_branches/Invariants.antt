use Rattle.std.proofs.Common.{◌≡◌, ◌++◌, take, string_bytes, codes}
use Rattle.std.specs.List.{flat_map}
use Rattle.perf_lines.specs.SampleText.{branch_item}
use Rattle.perf_lines.proofs.sample.push_branches.Given as goal

abbrev pub invariant-loop-branch : goal.invariant-loop-branch
invariant-loop-branch l = string_bytes l.text ≡ string_bytes l.initial.text ++ flat_map (λ other. codes "," ++ branch_item other) (take l.branch-index l.rest)
