use Rattle.perf_base.specs.Cow.{is_borrowed}
use Rattle.perf_records.specs.Records.{mmap2_is}
use Rattle.perf_types.specs.Mmap2.{mmap2, mmap2_value}
use Rattle.perf_records.proofs.TypeVisits.{saw_borrowed, no_borrowed}
use Rattle.perf_records.proofs.body.visit_mmap2.Goals as goal

pub returns-in-Ok : goal.returns-in-Ok
returns-in-Ok g c = record {
  call = saw_borrowed g.V.Visitor.gives c.args.metadata mmap2 mmap2_value mmap2_is (λ r. is_borrowed r.filename) c.visit_mmap2.ensures (λ lent. lent) (λ is. is) c.in-Ok.ensures.call;
}

pub returns-in-Err : goal.returns-in-Err
returns-in-Err g c = record {
  call = no_borrowed g.V.Visitor.gives c.args.metadata mmap2 mmap2_value mmap2_is c.in-Err.ensures.call;
}
