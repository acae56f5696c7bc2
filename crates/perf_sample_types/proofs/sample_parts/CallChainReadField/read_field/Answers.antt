use Rattle.std.proofs.Common.{◌≡◌, Err, rules}
use Rattle.perf_base.specs.Layout.{number, words, w8}
use Rattle.perf_reader.proofs.Calls.{chain}
use Rattle.perf_reader.proofs.After.{came_up, part_after}
use Rattle.perf_reader.proofs.RequestedParts.{transient}
use Rattle.perf_sample_types.proofs.ReadParts.{part_refused}
use Rattle.perf_sample_types.proofs.sample_parts.CallChainReadField.read_field.Goals as goal

pub returns-in_err-count : goal.returns-in_err-count
returns-in_err-count g c =
    let up : c.from_residual.result ≡ Err c.in_err-count.field-0.0 = came_up _ _ c.from_residual.ensures in
    let e = c.in_err-count.ensures in rw up (record {
      memory = λ lasts lists. cc;
      call = transient _ _ _ (λ _ _. tt) (part_refused (number w8) (λ n. n) _ e.call);
    })

pub returns-then-eq : goal.returns-then-eq
returns-then-eq g c = record {
  memory = λ lasts lists. cc;
  call = transient _ _ _ (λ _ _. tt) (part_after (number w8) (λ n. n) _ c.in_ok-count.ensures.call (part_refused (words _) (λ numbers. numbers) _ c.pass_addresses.ensures.call));
}

pub returns-in_err-addresses : goal.returns-in_err-addresses
returns-in_err-addresses g c =
    let up : c.from_residual-in_err-addresses.result ≡ Err c.in_err-addresses.field-0.0 = came_up _ _ c.from_residual-in_err-addresses.ensures in
    let e = c.in_err-addresses.ensures in rw up (record {
      memory = λ lasts lists. cc;
      call = transient _ _ _ (λ _ _. tt) (part_after (number w8) (λ n. n) _ c.in_ok-count.ensures.call (part_refused _ _ _ e.call));
    })

pub returns-clause-call : goal.returns-clause-call
returns-clause-call g c = search (rules, chain)
