use Rattle.std.proofs.Common.{◌≡◌, ◌++◌, string_bytes}
use Rattle.perf_summary.specs.OwnLines.{own_type_lines}
use Rattle.perf_summary.proofs.text.push_types.Given as goal

abbrev pub invariant-loop-ty : goal.invariant-loop-ty
invariant-loop-ty l = string_bytes l.text ≡ string_bytes l.initial.text ++ own_type_lines l.types l.ty
