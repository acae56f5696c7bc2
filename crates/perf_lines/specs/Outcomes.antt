-- How a run ended.
use Rattle.std.specs.Prelude.{ℕ}
use Rattle.perf_lines.specs.declared.outcome.Outcome.{Outcome}
use Rattle.perf_lines.specs.declared.outcome.Outcome.TheVariants.{Clean, Refused, BadAttr, Faulted}
use Rattle.perf_lines.specs.declared.outcome.Outcome.TheVariants.{Stopped}

-- the exit status of an outcome
abbrev pub status_of : Outcome → ℕ
status_of Clean = 0
status_of Refused = 1
status_of BadAttr = 2
status_of Faulted = 3
status_of Stopped = 3
