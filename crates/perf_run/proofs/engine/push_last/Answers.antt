use Rattle.std.proofs.Common.{rules}
use Rattle.perf_run.proofs.engine.push_last.Goals as goal

pub returns-then-any_refused : goal.returns-then-any_refused
returns-then-any_refused c = search rules steps 200000
