use Rattle.std.proofs.Common.{rules}
use Rattle.perf_lines.proofs.outcome.Outcome.status.Goals as goal

pub returns-in-Refused : goal.returns-in-Refused
returns-in-Refused c = search rules steps 100000
