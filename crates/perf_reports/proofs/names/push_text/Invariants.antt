use Rattle.std.proofs.Common.{◌≡◌, ◌++◌, length, drop, string_bytes}
use Rattle.std.specs.List.{flat_map}
use Rattle.std.specs.Str.{chars}
use Rattle.perf_reports.specs.TaskLines.{escaped_char, escaped_text}
use Rattle.perf_reports.proofs.names.push_text.Given as goal

abbrev pub invariant-loop-character : goal.invariant-loop-character
invariant-loop-character l = string_bytes l.text ++ flat_map escaped_char (drop (length l.yielded) (chars l.part)) ≡ string_bytes l.initial.text ++ escaped_text l.part
