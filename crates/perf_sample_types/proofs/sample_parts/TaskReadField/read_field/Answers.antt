use Rattle.std.proofs.Common.{◌≡◌, Err}
use Rattle.perf_base.specs.Layout.{number, w4}
use Rattle.perf_reader.proofs.After.{came_up, part_after, call_none}
use Rattle.perf_reader.proofs.RequestedParts.{transient}
use Rattle.perf_sample_types.proofs.ReadParts.{part_refused}
use Rattle.perf_sample_types.specs.SampleParts.{task_value}
use Rattle.perf_sample_types.proofs.sample_parts.TaskReadField.read_field.Goals as goal

pub returns-in_err-pid : goal.returns-in_err-pid
returns-in_err-pid g c =
    let up : c.from_residual.result ≡ Err c.in_err-pid.field-0.0 = came_up _ _ c.from_residual.ensures in
    let e = c.in_err-pid.ensures in rw up (record {
      memory = λ lasts lists. e.memory;
      call = transient _ _ _ (λ _ _. tt) (part_refused (number w4) (λ n. n) _ e.call);
    })

pub returns-in_err-tid : goal.returns-in_err-tid
returns-in_err-tid g c =
    let up : c.from_residual-in_err-tid.result ≡ Err c.in_err-tid.field-0.0 = came_up _ _ c.from_residual-in_err-tid.ensures in
    let e = c.in_err-tid.ensures in rw up (record {
      memory = λ lasts lists. e.memory;
      call = transient _ _ _ (λ _ _. tt) (part_after (number w4) (λ n. n) _ c.in_ok-pid.ensures.call (part_refused (number w4) (λ n. n) _ e.call));
    })

pub returns : goal.returns
returns g c =
    record {
      memory = λ lasts lists. tt;
      call = transient _ _ _ (λ _ _. tt) (part_after (number w4) (λ n. n) _ c.in_ok-pid.ensures.call (part_after (number w4) (λ n. n) _ c.in_ok-tid.ensures.call (call_none {show = task_value})));
    }
