use Rattle.std.proofs.Common.{rules}
use Rattle.perf_run.proofs.lines.push_attr_refused.Goals as goal

pub returns : goal.returns
returns c = search rules steps 300000
