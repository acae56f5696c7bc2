use Rattle.std.proofs.Common.{◌≡◌, ◌++◌, string_bytes}
use Rattle.perf_summary.specs.ThreadText.{threads_text}
use Rattle.perf_summary.proofs.thread_lines.push_threads.Given as goal

abbrev pub invariant-loop-who : goal.invariant-loop-who
invariant-loop-who l = string_bytes l.text ++ threads_text l.who-iterator ≡ string_bytes l.initial.text ++ threads_text l.threads.entries
