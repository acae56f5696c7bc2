use Rattle.std.proofs.Common.{ap}
use Rattle.perf_base.specs.Refusals.{kinds}
use Rattle.perf_records.specs.Records.{type_of}
use Rattle.perf_records.specs.Gives.{IsSampleIn}
use Rattle.perf_records.proofs.VisitedRecords.{placed_visit}
use Rattle.perf_records.proofs.BodyVisits.{visits_type}
use Rattle.perf_records.proofs.body_reader.IntoSampleReadBodySample.read_body.Goals as goal

pub returns : goal.returns
returns g c =
    let now = c.fill_over.new.sample in
    record { memory = λ plain whole. c.fill_over.ensures.memory (c.requires, whole) plain; call = λ ty. visits_type (λ seen (x : Unit {0}). IsSampleIn seen now) c.args.metadata (ap type_of ty) (placed_visit c.args.metadata now (kinds c.fill_over.result) c.fill_over.ensures.call) }
