use Rattle.perf_base.specs.Cow.{is_borrowed}
use Rattle.perf_records.specs.Records.{comm_is}
use Rattle.perf_types.specs.Comm.{comm, comm_value}
use Rattle.perf_records.proofs.TypeVisits.{saw_borrowed, no_borrowed}
use Rattle.perf_records.proofs.body.visit_comm.Goals as goal

pub returns-in-Ok : goal.returns-in-Ok
returns-in-Ok g c = record {
  call = saw_borrowed g.V.Visitor.gives c.args.metadata (λ k. comm) comm_value comm_is (λ r. is_borrowed r.comm) c.visit_comm.ensures (λ lent. lent) (λ is. is) c.in-Ok.ensures.call;
}

pub returns-in-Err : goal.returns-in-Err
returns-in-Err g c = record {
  call = no_borrowed g.V.Visitor.gives c.args.metadata (λ k. comm) comm_value comm_is c.in-Err.ensures.call;
}
