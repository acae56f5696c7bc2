use Rattle.std.proofs.Common.{rules}
use Rattle.perf_reader.proofs.Calls.{chain}
use Rattle.perf_types.proofs.comm.CommReadFrom.read.Goals as goal

pub returns : goal.returns
returns g c = search (rules, chain)

pub returns-in_err-comm : goal.returns-in_err-comm
returns-in_err-comm g c = search (rules, chain)
