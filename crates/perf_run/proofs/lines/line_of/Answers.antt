use Rattle.std.proofs.Common.{rules}
use Rattle.perf_run.proofs.lines.line_of.Goals as goal

pub returns-clause-ok : goal.returns-clause-ok
returns-clause-ok c = search rules steps 300000
