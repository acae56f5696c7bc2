use Rattle.std.proofs.Common.{◌≡◌, Err, Some, ap, sym, ◌∙◌}
use Rattle.std.specs.List.{flat_map}
use Rattle.perf_base.specs.Configured.{configuration_of}
use Rattle.perf_base.specs.Layout.{number, w8}
use Rattle.perf_reader.proofs.After.{came_up, part_after}
use Rattle.perf_reader.proofs.RequestedParts.{transient, option_after, call_gives}
use Rattle.perf_sample_types.proofs.BranchLists.{branches_flat}
use Rattle.perf_sample_types.proofs.ReadParts.{part_refused, option_refused}
use Rattle.perf_sample_types.specs.Branches.{branches_of, branch_numbers}
use Rattle.perf_sample_types.specs.Sample.{branch_stack, branches_are}
use Rattle.perf_sample_types.proofs.sample_parts.BranchesReadField.read_field.Goals as goal

pub returns-in_err-count : goal.returns-in_err-count
unfolding branch_stack
returns-in_err-count g c =
    let up : c.from_residual.result ≡ Err c.in_err-count.field-0.0 = came_up _ _ c.from_residual.ensures in
    let e = c.in_err-count.ensures in rw up (record {
      memory = λ lasts lists. cc;
      call = transient _ _ _ (λ _ _. tt) (part_refused (number w8) (λ n. n) _ e.call);
    })

pub returns-in_err-hw_index : goal.returns-in_err-hw_index
unfolding branch_stack
returns-in_err-hw_index g c =
    let up : c.from_residual-in_err-hw_index.result ≡ Err c.in_err-hw_index.field-0.0 = came_up _ _ c.from_residual-in_err-hw_index.ensures in
    let e = c.in_err-hw_index.ensures in rw up (record {
      memory = λ lasts lists. cc;
      call = transient _ _ _ (λ _ _. tt) (part_after (number w8) (λ n. n) _ c.in_ok-count.ensures.call (option_refused w8 (λ s. s.branch_hw_index) _ _ (sym (c.branch_hw_index-with_index.ensures ∙ ap (λ k. (configuration_of k).branch_hw_index) c.config.ensures)) e.call));
    })

pub returns-in_err-entries : goal.returns-in_err-entries
unfolding branch_stack
returns-in_err-entries g c =
    let up : c.from_residual-in_err-entries.result ≡ Err c.in_err-entries.field-0.0 = came_up _ _ c.from_residual-in_err-entries.ensures in
    let e = c.in_err-entries.ensures in rw up (record {
      memory = λ lasts lists. cc;
      call = transient _ _ _ (λ _ _. tt) (part_after (number w8) (λ n. n) _ c.in_ok-count.ensures.call (option_after w8 (λ s. s.branch_hw_index) _ _ (sym (c.branch_hw_index-with_index.ensures ∙ ap (λ k. (configuration_of k).branch_hw_index) c.config.ensures)) c.in_ok-hw_index.ensures.call (part_refused _ _ _ e.call)));
    })

pub returns : goal.returns
unfolding branch_stack
returns g c =
    record {
      memory = λ lasts lists. tt;
      call = transient _ _ _ (λ _ _. tt) (part_after (number w8) (λ n. n) _ c.in_ok-count.ensures.call (option_after w8 (λ s. s.branch_hw_index) _ _ (sym (c.branch_hw_index-with_index.ensures ∙ ap (λ k. (configuration_of k).branch_hw_index) c.config.ensures)) c.in_ok-hw_index.ensures.call (part_after _ _ _ c.in_ok-entries.ensures.call (call_gives (λ _. branches_are c.in_ok-hw_index.hw_index (Some (branches_of (flat_map branch_numbers c.in_ok-entries.entries.items)))) (ap (λ bs. branches_are c.in_ok-hw_index.hw_index (Some bs)) (branches_flat c.in_ok-entries.entries.items))))));
    }
