use Rattle.std.proofs.Common.{◌≡◌, ◌+◌, ◌<◌, ◌^◌, ◌++◌, length, take, string_bytes}
use Rattle.perf_parser.specs.Runs.{seen_answers}
use Rattle.perf_run.specs.Text.{lines_from}
use Rattle.perf_run.proofs.lines.push_lines.Given as goal

abbrev pub invariant-loop-header : goal.invariant-loop-header
invariant-loop-header l =
    l.first + length l.frames < 2 ^ 64 → (l.index ≡ l.first + l.header-index)
    × (string_bytes l.text ≡ string_bytes l.initial.text ++ lines_from l.first (seen_answers (take l.header-index l.frames)))
