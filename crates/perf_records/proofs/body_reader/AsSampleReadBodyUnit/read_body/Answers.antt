use Rattle.std.proofs.Common.{ap}
use Rattle.perf_base.specs.Refusals.{kinds}
use Rattle.perf_records.specs.Records.{type_of}
use Rattle.perf_records.specs.Gives.{IsSampleOf}
use Rattle.perf_records.proofs.VisitedRecords.{boxed_visit}
use Rattle.perf_records.proofs.BodyVisits.{visits_type}
use Rattle.perf_records.proofs.body_reader.AsSampleReadBodyUnit.read_body.Goals as goal

pub returns : goal.returns
returns g c = record { memory = λ plain whole. absurd plain; call = λ ty. visits_type IsSampleOf c.args.metadata (ap type_of ty) (boxed_visit c.args.metadata (kinds c.read_boxed_sample.result) c.read_boxed_sample.ensures.call) }
