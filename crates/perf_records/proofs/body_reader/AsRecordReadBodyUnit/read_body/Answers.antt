use Rattle.std.proofs.Common.{◌∙◌, sym, Ok, Err}
use Rattle.perf_base.specs.Refusals.{refusal_kind}
use Rattle.perf_records.proofs.VisitedRecords.{boxed_body, boxed_visit, made_body, unboxed_body, unmade_body}
use Rattle.perf_records.proofs.body_reader.AsRecordReadBodyUnit.read_body.Goals as goal

pub returns-in-Ok-Ok : goal.returns-in-Ok-Ok
returns-in-Ok-Ok g c = record { memory = λ plain whole. absurd plain; call = λ any. made_body c.args.metadata c.in-Ok-Ok.field-0 c.in-Ok-Ok.record c.in-Ok-Ok.field-0-is c.in-Ok-Ok.ensures.call }

pub returns-in-Ok-Err : goal.returns-in-Ok-Err
returns-in-Ok-Err g c = record { memory = λ plain whole. absurd plain; call = λ any. unmade_body c.args.metadata c.in-Ok-Err.field-0 c.in-Ok-Err.refusal c.in-Ok-Err.field-0-is c.requires c.in-Ok-Err.ensures.call }

-- a sample
pub returns-in-Ok : goal.returns-in-Ok
returns-in-Ok g c = record { memory = λ plain whole. absurd plain; call = λ any. boxed_body c.args.metadata c.in-Ok.sample (sym c.ty.ensures ∙ c.if-ty-eq-PERF_RECORD_SAMPLE.true) (boxed_visit c.args.metadata (Ok c.in-Ok.sample) c.in-Ok.ensures.call) }

pub returns-in-Err : goal.returns-in-Err
returns-in-Err g c = record { memory = λ plain whole. absurd plain; call = λ any. unboxed_body c.args.metadata (refusal_kind c.in-Err.refusal) (sym c.ty.ensures ∙ c.if-ty-eq-PERF_RECORD_SAMPLE.true) (boxed_visit c.args.metadata (Err (refusal_kind c.in-Err.refusal)) c.in-Err.ensures.call) }
