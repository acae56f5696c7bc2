use Rattle.std.proofs.Common.{◌≡◌, ◌++◌, map}
use Rattle.serde_json.specs.View.{view}
use Rattle.perf_summary.specs.ThreadText.{threads_data}
use Rattle.perf_summary.proofs.thread_lines.thread_values.Given as goal

abbrev pub invariant-loop-who : goal.invariant-loop-who
invariant-loop-who l = map view l.values.items ++ threads_data l.who-iterator ≡ threads_data l.threads.entries
