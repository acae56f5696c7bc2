use Rattle.std.proofs.Common.{rules}
use Rattle.perf_reader.proofs.Calls.{chain}
use Rattle.perf_types.proofs.read.ReadReadFrom.read.Goals as goal

pub returns-in_err-values : goal.returns-in_err-values
returns-in_err-values g c = search (rules, chain)
