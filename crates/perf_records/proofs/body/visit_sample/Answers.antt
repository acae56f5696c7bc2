use Rattle.std.proofs.Common.{◌≡◌, true, false, refl}
use Rattle.perf_records.specs.Records.{sample_is, sample_value}
use Rattle.perf_records.specs.Gives.{is_borrowed_sample}
use Rattle.perf_sample_types.specs.Sample.{sample}
use Rattle.perf_records.proofs.BorrowedValues.{sample_borrowed}
use Rattle.perf_records.proofs.TypeVisits.{visited, unvisited, of_said}
use Rattle.perf_records.proofs.body.visit_sample.Goals as goal

pub returns-in-Err-read_sample : goal.returns-in-Err-read_sample
returns-in-Err-read_sample g c =
    let call = c.in-Err-read_sample.ensures.call in record {
      call = unvisited g.V.Visitor.gives c.args.metadata sample sample_value sample_is true (λ t w no. let never : true ≡ false = no in absurd (cc)) (of_said (λ transition. transition.0) call);
    }

pub returns-in-Ok-read_sample : goal.returns-in-Ok-read_sample
returns-in-Ok-read_sample g c =
    let content = c.read_sample-fill_sample.new.sample in
    let call = c.in-Ok-read_sample.ensures.call in record {
      call = visited g.V.Visitor.gives c.args.metadata sample sample_value sample_is (is_borrowed_sample content) true c.visit_sample.ensures (λ t w. sample_borrowed content ((call.answer t).1 w)) (λ is. refl) (of_said (λ transition. transition.0) call);
    }
