use Rattle.perf_base.specs.Layout.{value}
use Rattle.perf_reader.proofs.AtOnce.{at_once}
use Rattle.perf_types.specs.Mmap2.{place}
use Rattle.perf_types.proofs.AtOnce.{place_taken}
use Rattle.perf_types.proofs.mmap2.Place.read.Goals as goal

-- all at once
pub returns-in-Some-clause-call : goal.returns-in-Some-clause-call
returns-in-Some-clause-call g c =
    at_once place 32 5 (λ o xs. value o xs 0 place) place_taken c.from_bytes.ensures c.endian.ensures c.in-Some.is c.in_ok-bytes.ensures.taken
