use Rattle.std.proofs.Common.{rules}
use Rattle.perf_reader.proofs.Calls.{chain}
use Rattle.perf_types.proofs.ksymbol.KSymbolReadFrom.read.Goals as goal

pub returns : goal.returns
returns g c = search (rules, chain)

pub returns-in_err-read_u64 : goal.returns-in_err-read_u64
returns-in_err-read_u64 g c = search (rules, chain)

pub returns-in_err-read_u32 : goal.returns-in_err-read_u32
returns-in_err-read_u32 g c = search (rules, chain)

pub returns-in_err-read : goal.returns-in_err-read
returns-in_err-read g c = search (rules, chain)

pub returns-in_err-read-2 : goal.returns-in_err-read-2
returns-in_err-read-2 g c = search (rules, chain)

pub returns-in_err-read_rest_trim_nul : goal.returns-in_err-read_rest_trim_nul
returns-in_err-read_rest_trim_nul g c = search (rules, chain)
