use Rattle.perf_records.specs.Records.{itrace_start_is}
use Rattle.perf_types.specs.Numbers.{itrace_start}
use Rattle.perf_records.proofs.TypeVisits.{saw_plain, no_plain}
use Rattle.perf_records.proofs.body.visit_itrace_start.Goals as goal

pub returns-in-Ok : goal.returns-in-Ok
returns-in-Ok g c = record {
  call = saw_plain g.V.Visitor.gives c.args.metadata (λ k. itrace_start) (λ r. r) itrace_start_is c.visit_itrace_start.ensures (λ is. is) c.in-Ok.ensures.call;
}

pub returns-in-Err : goal.returns-in-Err
returns-in-Err g c = record {
  call = no_plain g.V.Visitor.gives c.args.metadata (λ k. itrace_start) (λ r. r) itrace_start_is c.in-Err.ensures.call;
}
