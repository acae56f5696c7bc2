use Rattle.perf_records.specs.Records.{aux_is}
use Rattle.perf_types.specs.Numbers.{aux, aux_value}
use Rattle.perf_records.proofs.TypeVisits.{saw_plain, no_plain}
use Rattle.perf_records.proofs.body.visit_aux.Goals as goal

pub returns-in-Ok : goal.returns-in-Ok
returns-in-Ok g c = record {
  call = saw_plain g.V.Visitor.gives c.args.metadata (λ k. aux) aux_value aux_is c.visit_aux.ensures (λ is. is) c.in-Ok.ensures.call;
}

pub returns-in-Err : goal.returns-in-Err
returns-in-Err g c = record {
  call = no_plain g.V.Visitor.gives c.args.metadata (λ k. aux) aux_value aux_is c.in-Err.ensures.call;
}
