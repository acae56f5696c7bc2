use Rattle.std.proofs.Common.{ap, sym, rules}
use Rattle.std.proofs.lemmas.List.Sorted.{IsNonDecreasingBy-from_sort_by_key, IsPermutation-sym}
use Rattle.perf_sections.specs.declared.ids.IdOfEvent.{IdOfEvent}
use Rattle.perf_sections.specs.IdTables.{shared_or_not}
use Rattle.perf_sections.proofs.Tables.{least_is, none_is, shared_moved, function_moved, event_moved}
use Rattle.perf_outlines.proofs.id_list.check_ids.Goals as goal

pub least_shared-requires : goal.least_shared-requires
least_shared-requires c = IsNonDecreasingBy-from_sort_by_key (λ (e : IdOfEvent). e.id) _ c.sort_unstable_by_key.ensures.sorted (λ a r q k. search rules)

pub returns-in-Some-clause-value : goal.returns-in-Some-clause-value
returns-in-Some-clause-value c =
    let t = c.args.ids.now in
    let now = c.sort_unstable_by_key.new.self in
    let moved = c.sort_unstable_by_key.ensures.permutation in
    sym (ap shared_or_not (least_is t c.in-Some.id (shared_moved now t c.in-Some.id (IsPermutation-sym t now moved) c.in-Some.ensures.shared) (λ i h. c.in-Some.ensures.least i (shared_moved t now i moved h))))

pub returns-in-None-clause-value : goal.returns-in-None-clause-value
returns-in-None-clause-value c =
    let t = c.args.ids.now in
    let now = c.sort_unstable_by_key.new.self in
    sym (ap shared_or_not (none_is t (function_moved t now c.sort_unstable_by_key.ensures.permutation c.in-None.ensures.none)))

pub returns-in-None-clause-found : goal.returns-in-None-clause-found
returns-in-None-clause-found c id = event_moved c.args.ids.now c.sort_unstable_by_key.new.self id c.sort_unstable_by_key.ensures.permutation c.in-None.ensures.none

pub returns-in-Some-clause-sorted : goal.returns-in-Some-clause-sorted
returns-in-Some-clause-sorted c = IsNonDecreasingBy-from_sort_by_key (λ (e : IdOfEvent). e.id) _ c.sort_unstable_by_key.ensures.sorted (λ a r q k. search rules)

pub returns-in-None-clause-sorted : goal.returns-in-None-clause-sorted
returns-in-None-clause-sorted c = IsNonDecreasingBy-from_sort_by_key (λ (e : IdOfEvent). e.id) _ c.sort_unstable_by_key.ensures.sorted (λ a r q k. search rules)
