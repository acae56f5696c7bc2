use Rattle.perf_records.specs.Records.{lost_samples_is}
use Rattle.perf_types.specs.Numbers.{lost_samples}
use Rattle.perf_records.proofs.TypeVisits.{saw_plain, no_plain}
use Rattle.perf_records.proofs.body.visit_lost_samples.Goals as goal

pub returns-in-Ok : goal.returns-in-Ok
returns-in-Ok g c = record {
  call = saw_plain g.V.Visitor.gives c.args.metadata (λ k. lost_samples) (λ r. r) lost_samples_is c.visit_lost_samples.ensures (λ is. is) c.in-Ok.ensures.call;
}

pub returns-in-Err : goal.returns-in-Err
returns-in-Err g c = record {
  call = no_plain g.V.Visitor.gives c.args.metadata (λ k. lost_samples) (λ r. r) lost_samples_is c.in-Err.ensures.call;
}
