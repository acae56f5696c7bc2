use Rattle.std.proofs.Common.{rules}
use Rattle.perf_reader.proofs.Calls.{chain}
use Rattle.perf_base.specs.Layout.{value}
use Rattle.perf_reader.proofs.AtOnce.{at_once}
use Rattle.perf_reader.proofs.After.{plain}
use Rattle.perf_types.specs.Numbers.{exit}
use Rattle.perf_types.proofs.AtOnce.{exit_taken}
use Rattle.perf_types.proofs.numbers.ExitReadFrom.read.Goals as goal

-- all at once
pub returns-in-Some : goal.returns-in-Some
returns-in-Some g c = record {
  call = plain _ _ (λ t. tt) (at_once exit 24 5 (λ o xs. value o xs 0 exit) exit_taken c.exit_in.ensures c.endian.ensures c.in-Some.is c.in_ok-bytes.ensures.taken);
}

pub returns : goal.returns
returns g c = search (rules, chain)

pub returns-in_err-read_u32 : goal.returns-in_err-read_u32
returns-in_err-read_u32 g c = search (rules, chain)

pub returns-in_err-read_u32-2 : goal.returns-in_err-read_u32-2
returns-in_err-read_u32-2 g c = search (rules, chain)

pub returns-in_err-read_u32-3 : goal.returns-in_err-read_u32-3
returns-in_err-read_u32-3 g c = search (rules, chain)

pub returns-in_err-read_u32-4 : goal.returns-in_err-read_u32-4
returns-in_err-read_u32-4 g c = search (rules, chain)

pub returns-in_err-read_u64 : goal.returns-in_err-read_u64
returns-in_err-read_u64 g c = search (rules, chain)
