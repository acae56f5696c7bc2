use Rattle.std.proofs.Common.{◌≡◌, Err, rules}
use Rattle.perf_base.specs.Layout.{number, padding, w4}
use Rattle.perf_reader.proofs.Calls.{chain}
use Rattle.perf_reader.proofs.After.{came_up, part_after}
use Rattle.perf_reader.proofs.RequestedParts.{transient}
use Rattle.perf_sample_types.proofs.ReadParts.{part_refused}
use Rattle.perf_sample_types.proofs.sample_parts.CpuReadField.read_field.Goals as goal

pub returns-in_err-number : goal.returns-in_err-number
returns-in_err-number g c =
    let up : c.from_residual.result ≡ Err c.in_err-number.field-0.0 = came_up _ _ c.from_residual.ensures in
    let e = c.in_err-number.ensures in rw up (record {
      memory = λ lasts lists. e.memory;
      call = transient _ _ _ (λ _ _. tt) (part_refused (number w4) (λ n. n) _ e.call);
    })

pub returns-in_err-skip : goal.returns-in_err-skip
returns-in_err-skip g c =
    let up : c.from_residual-in_err-skip.result ≡ Err c.in_err-skip.field-0.0 = came_up _ _ c.from_residual-in_err-skip.ensures in
    let e = c.in_err-skip.ensures in rw up (record {
      memory = λ lasts lists. e.memory;
      call = transient _ _ _ (λ _ _. tt) (part_after (number w4) (λ n. n) _ c.in_ok-number.ensures.call (part_refused (padding 4) (λ _. tt) _ e.call));
    })

pub returns-clause-call : goal.returns-clause-call
returns-clause-call g c = search (rules, chain)
