use Rattle.perf_base.specs.Layout.{value}
use Rattle.perf_reader.proofs.AtOnce.{at_once}
use Rattle.perf_types.specs.Pair.{pair}
use Rattle.perf_types.proofs.AtOnce.{pair_taken}
use Rattle.perf_types.proofs.pair.read_pair.Goals as goal

-- both at once
pub returns-in-Some-clause-call : goal.returns-in-Some-clause-call
returns-in-Some-clause-call g c =
    at_once pair 8 2 (λ o xs. value o xs 0 pair) pair_taken c.pair_in.ensures c.endian.ensures c.in-Some.is c.in_ok-bytes.ensures.taken
