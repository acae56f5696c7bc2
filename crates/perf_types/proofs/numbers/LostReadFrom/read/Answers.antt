use Rattle.std.proofs.Common.{rules}
use Rattle.perf_reader.proofs.Calls.{chain}
use Rattle.perf_types.proofs.numbers.LostReadFrom.read.Goals as goal

pub returns : goal.returns
returns g c = search (rules, chain)

pub returns-in_err-read_u64 : goal.returns-in_err-read_u64
returns-in_err-read_u64 g c = search (rules, chain)

pub returns-in_err-read_u64-2 : goal.returns-in_err-read_u64-2
returns-in_err-read_u64-2 g c = search (rules, chain)
