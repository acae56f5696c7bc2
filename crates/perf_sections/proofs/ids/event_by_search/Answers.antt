use Rattle.std.proofs.Common.{◌∙◌, ap, sym, nat_lt, arith, rules, tests}
use Rattle.std.proofs.lemmas.List.Sorted.{IsPartitionPoint-from_clause, IsPartitionedBy-ltb}
use Rattle.std.proofs.lemmas.List.{get_or_default}
use Rattle.perf_sections.specs.declared.ids.IdOfEvent.{IdOfEvent}
use Rattle.perf_sections.proofs.Tables.{pair}
use Rattle.perf_sections.proofs.Rising.{found_at, absent}
use Rattle.perf_sections.proofs.ids.event_by_search.Goals as goal

pub returns-then-at-table : goal.returns-then-at-table
returns-then-at-table c sorted =
    let parted = IsPartitionedBy-ltb (λ (e : IdOfEvent). e.id) c.args.table.now c.args.id sorted in
    let point = IsPartitionPoint-from_clause (λ (e : IdOfEvent). nat_lt e.id c.args.id) _ _ c.partition_point-at.ensures.partitioned parted (λ a r q k. search (rules, tests)) in
    sym (absent c.args.table.now c.partition_point-at.result c.args.id sorted point (λ d lt is. absurd (omega arith)))

pub returns-then-entry-id : goal.returns-then-entry-id
returns-then-entry-id c sorted =
    let parted = IsPartitionedBy-ltb (λ (e : IdOfEvent). e.id) c.args.table.now c.args.id sorted in
    let point = IsPartitionPoint-from_clause (λ (e : IdOfEvent). nat_lt e.id c.args.id) _ _ c.partition_point-at.ensures.partitioned parted (λ a r q k. search (rules, tests)) in
    sym (found_at c.args.table.now c.partition_point-at.result c.args.id (pair 0 0) point (omega arith) c.if-entry-id.true)

pub returns-else-entry-id : goal.returns-else-entry-id
returns-else-entry-id c sorted =
    let parted = IsPartitionedBy-ltb (λ (e : IdOfEvent). e.id) c.args.table.now c.args.id sorted in
    let point = IsPartitionPoint-from_clause (λ (e : IdOfEvent). nat_lt e.id c.args.id) _ _ c.partition_point-at.ensures.partitioned parted (λ a r q k. search (rules, tests)) in
    sym (absent c.args.table.now c.partition_point-at.result c.args.id sorted point (λ d lt is. c.if-entry-id.false (ap (λ (e : IdOfEvent). e.id) (get_or_default c.args.table.now c.partition_point-at.result (pair 0 0) d lt) ∙ is)))
