use Rattle.std.proofs.Common.{rules}
use Rattle.perf_reader.proofs.Calls.{chain}
use Rattle.perf_types.proofs.numbers.ITraceStartReadFrom.read.Goals as goal

pub returns : goal.returns
returns g c = search (rules, chain)
