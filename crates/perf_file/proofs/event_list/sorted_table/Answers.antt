use Rattle.std.proofs.Common.{ap, subst, sym, rules, map}
use Rattle.std.proofs.lemmas.List.Sorted.{IsNonDecreasingBy-from_sort_by_key, IsPermutation-sym}
use Rattle.std.specs.List.Sorted.{IsPermutation}
use Rattle.perf_sections.specs.declared.ids.IdOfEvent.{IdOfEvent}
use Rattle.perf_sections.specs.IdTables.{IsFunction, shared_or_not}
use Rattle.perf_sections.specs.Opened.{event_view, table_of}
use Rattle.perf_sections.proofs.Tables.{least_is, none_is, shared_moved, function_moved, event_moved}
use Rattle.perf_file.proofs.event_list.sorted_table.Goals as goal

pub least_shared-requires : goal.least_shared-requires
least_shared-requires c = rw c.deref.ensures.value (IsNonDecreasingBy-from_sort_by_key (λ (e : IdOfEvent). e.id) _ c.sort_unstable_by_key.ensures.sorted (λ a r q k. search rules))

pub returns-in-Some-clause-exact : goal.returns-in-Some-clause-exact
returns-in-Some-clause-exact c =
    let t = table_of (map event_view c.args.events.now) in
    let now = c.deref.result.now in
    let moved : IsPermutation t now = subst (λ xs. IsPermutation xs now) c.in_ok-table.ensures (subst (λ ys. IsPermutation c.in_ok-table.table.items ys) (sym c.deref.ensures.value) c.sort_unstable_by_key.ensures.permutation) in
    ap shared_or_not (least_is t c.in-Some.id (shared_moved now t c.in-Some.id (IsPermutation-sym t now moved) c.in-Some.ensures.shared) (λ i h. c.in-Some.ensures.least i (shared_moved t now i moved h)))

pub returns-in-None-clause-exact : goal.returns-in-None-clause-exact
returns-in-None-clause-exact c =
    let t = table_of (map event_view c.args.events.now) in
    let now = c.deref.result.now in
    let moved : IsPermutation t now = subst (λ xs. IsPermutation xs now) c.in_ok-table.ensures (subst (λ ys. IsPermutation c.in_ok-table.table.items ys) (sym c.deref.ensures.value) c.sort_unstable_by_key.ensures.permutation) in
    ap shared_or_not (none_is t (function_moved t now moved c.in-None.ensures.none))

pub returns-in-None-clause-sorted : goal.returns-in-None-clause-sorted
returns-in-None-clause-sorted c = IsNonDecreasingBy-from_sort_by_key (λ (e : IdOfEvent). e.id) _ c.sort_unstable_by_key.ensures.sorted (λ a r q k. search rules)

pub returns-in-None-clause-found : goal.returns-in-None-clause-found
returns-in-None-clause-found c id =
    let t = table_of (map event_view c.args.events.now) in
    let now = c.sort_unstable_by_key.new.self.items in
    let moved : IsPermutation t now = subst (λ xs. IsPermutation xs now) c.in_ok-table.ensures c.sort_unstable_by_key.ensures.permutation in
    event_moved t now id moved (subst IsFunction c.deref.ensures.value c.in-None.ensures.none)
