use Rattle.std.proofs.Common.{rules}
use Rattle.perf_run.proofs.engine.push_ending.Goals as goal

pub returns-in-CutHeader : goal.returns-in-CutHeader
returns-in-CutHeader c = search rules steps 300000

pub returns-in_ok-push_fault-in-Fault : goal.returns-in_ok-push_fault-in-Fault
returns-in_ok-push_fault-in-Fault c = search rules steps 300000
