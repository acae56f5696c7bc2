use Rattle.perf_records.specs.Records.{lost_is}
use Rattle.perf_types.specs.Numbers.{lost}
use Rattle.perf_records.proofs.TypeVisits.{saw_plain, no_plain}
use Rattle.perf_records.proofs.body.visit_lost.Goals as goal

pub returns-in-Ok : goal.returns-in-Ok
returns-in-Ok g c = record {
  call = saw_plain g.V.Visitor.gives c.args.metadata (λ k. lost) (λ r. r) lost_is c.visit_lost.ensures (λ is. is) c.in-Ok.ensures.call;
}

pub returns-in-Err : goal.returns-in-Err
returns-in-Err g c = record {
  call = no_plain g.V.Visitor.gives c.args.metadata (λ k. lost) (λ r. r) lost_is c.in-Err.ensures.call;
}
