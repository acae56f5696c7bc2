use Rattle.perf_base.specs.Cow.{is_borrowed}
use Rattle.perf_records.specs.Records.{mmap_is}
use Rattle.perf_types.specs.Mmap.{mmap, mmap_value}
use Rattle.perf_records.proofs.TypeVisits.{saw_borrowed, no_borrowed}
use Rattle.perf_records.proofs.body.visit_mmap.Goals as goal

pub returns-in-Ok : goal.returns-in-Ok
returns-in-Ok g c = record {
  call = saw_borrowed g.V.Visitor.gives c.args.metadata (λ k. mmap) mmap_value mmap_is (λ r. is_borrowed r.filename) c.visit_mmap.ensures (λ lent. lent) (λ is. is) c.in-Ok.ensures.call;
}

pub returns-in-Err : goal.returns-in-Err
returns-in-Err g c = record {
  call = no_borrowed g.V.Visitor.gives c.args.metadata (λ k. mmap) mmap_value mmap_is c.in-Err.ensures.call;
}
