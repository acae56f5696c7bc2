use Rattle.std.proofs.Common.{◌≡◌, ◌++◌, drop}
use Rattle.perf_counters.specs.EntryCalls.{answers_of, left_by_all}
use Rattle.perf_counters.specs.GroupIter.{entries_left}
use Rattle.perf_counters.proofs.group_laws.entry_calls.Given as goal

-- The results so far and those of the remaining calls are the results of all calls, and what all of
-- them leave is what the remaining calls leave.
abbrev pub invariant-loop-call : goal.invariant-loop-call
invariant-loop-call l =
    let first = entries_left l.fn.entries in
    let left = entries_left l.entries in
    let others = drop l.call-index l.calls in
    (l.answers.items ++ answers_of others left ≡ answers_of l.calls first)
    × (left_by_all others left ≡ left_by_all l.calls first)
