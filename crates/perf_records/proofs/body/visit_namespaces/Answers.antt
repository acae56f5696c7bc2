use Rattle.std.proofs.Common.{◌≡◌, true, false, refl}
use Rattle.perf_records.specs.Records.{namespaces_is}
use Rattle.perf_types.specs.Namespaces.{namespaces, namespaces_value}
use Rattle.perf_records.proofs.TypeVisits.{visited, unvisited}
use Rattle.perf_records.proofs.body.visit_namespaces.Goals as goal

pub returns-in-Ok : goal.returns-in-Ok
returns-in-Ok g c = record {
  call = visited g.V.Visitor.gives c.args.metadata (λ k. namespaces) namespaces_value namespaces_is true true c.visit_namespaces.ensures (λ t w. refl) (λ is. absurd is) c.in-Ok.ensures.call;
}

pub returns-in-Err : goal.returns-in-Err
returns-in-Err g c = record {
  call = unvisited g.V.Visitor.gives c.args.metadata (λ k. namespaces) namespaces_value namespaces_is true (λ t w no. let never : true ≡ false = no in absurd (cc)) c.in-Err.ensures.call;
}
