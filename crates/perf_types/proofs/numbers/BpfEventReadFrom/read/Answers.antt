use Rattle.std.proofs.Common.{rules}
use Rattle.perf_reader.proofs.Calls.{chain}
use Rattle.perf_types.proofs.numbers.BpfEventReadFrom.read.Goals as goal

pub returns : goal.returns
returns g c = search (rules, chain)

pub returns-in_err-read : goal.returns-in_err-read
returns-in_err-read g c = search (rules, chain)

pub returns-in_err-read_u16 : goal.returns-in_err-read_u16
returns-in_err-read_u16 g c = search (rules, chain)

pub returns-in_err-read_u32 : goal.returns-in_err-read_u32
returns-in_err-read_u32 g c = search (rules, chain)

pub returns-in_err-read_array : goal.returns-in_err-read_array
returns-in_err-read_array g c = search (rules, chain)
