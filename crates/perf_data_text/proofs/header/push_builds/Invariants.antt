use Rattle.std.proofs.Common.{◌≡◌, ◌++◌, string_bytes}
use Rattle.perf_file.specs.BuildIds.{builds_left}
use Rattle.perf_data_text.specs.HeaderText.{build_lines}
use Rattle.perf_data_text.proofs.header.push_builds.Given as goal

abbrev pub invariant-loop-build : goal.invariant-loop-build
invariant-loop-build l = string_bytes l.text ++ build_lines (builds_left l.build-iterator) ≡ string_bytes l.initial.text ++ build_lines (builds_left l.fn.list)
