use Rattle.std.proofs.Common.{rules}
use Rattle.perf_reader.proofs.Calls.{chain}
use Rattle.perf_types.proofs.switch_cpu_wide.SwitchCpuWideReadFrom.read.Goals as goal

pub returns-then-out : goal.returns-then-out
returns-then-out g c = search (rules, chain)

pub returns-else-out : goal.returns-else-out
returns-else-out g c = search (rules, chain)
