use Rattle.std.proofs.Common.{rules}
use Rattle.perf_reader.proofs.Calls.{chain}
use Rattle.perf_types.proofs.numbers.LostSamplesReadFrom.read.Goals as goal

pub returns : goal.returns
returns g c = search (rules, chain)

pub returns-in_err-count : goal.returns-in_err-count
returns-in_err-count g c = search (rules, chain)
