use Rattle.std.proofs.Common.{◌≡◌, ◌∙◌, ap, sym, subst, nat_lt, arith, rules, tests}
use Rattle.std.proofs.lemmas.List.Sorted.{IsPartitionPoint-from_clause, IsPartitionedBy-ltb}
use Rattle.std.proofs.lemmas.List.{get_or_default}
use Rattle.perf_sections.specs.NamePlaces.{rank, rank_of, place_of, IsFirst}
use Rattle.perf_sections.specs.declared.name_places.NamePlace.{NamePlace}
use Rattle.perf_sections.proofs.NamePlacing.{zero_place, point_first, none_of}
use Rattle.perf_sections.proofs.name_places.index_of.Goals as goal

pub returns-then-at-names-clause-first : goal.returns-then-at-names-clause-first
returns-then-at-names-clause-first c sorted =
    let ps = c.args.names.now in
    let r = c.rank-sought.result in
    let is : r ≡ rank_of c.args.key = c.rank-sought.ensures ∙ ap rank c.unnamed.ensures in
    let parted = IsPartitionedBy-ltb (λ (p : NamePlace). rank p) ps r sorted in
    let point = IsPartitionPoint-from_clause (λ (p : NamePlace). nat_lt (rank p) r) _ _ c.partition_point-at.ensures.partitioned parted (λ a q k h. search (rules, tests)) in
    ap (place_of ps) (sym is) ∙ none_of ps r c.partition_point-at.result sorted point (λ d lt same. absurd (omega arith))

pub returns-then-rank-sought-clause-first : goal.returns-then-rank-sought-clause-first
returns-then-rank-sought-clause-first c sorted =
    let ps = c.args.names.now in
    let r = c.rank-sought.result in
    let at = c.partition_point-at.result in
    let is : r ≡ rank_of c.args.key = c.rank-sought.ensures ∙ ap rank c.unnamed.ensures in
    let parted = IsPartitionedBy-ltb (λ (p : NamePlace). rank p) ps r sorted in
    let point = IsPartitionPoint-from_clause (λ (p : NamePlace). nat_lt (rank p) r) _ _ c.partition_point-at.ensures.partitioned parted (λ a q k h. search (rules, tests)) in
    subst (λ n. IsFirst ps n at) is (point_first ps r at point (omega arith) (λ d. ap rank (get_or_default ps at d zero_place (omega arith)) ∙ sym c.rank.ensures ∙ c.if-rank-sought.true))

pub returns-else-rank-sought-clause-first : goal.returns-else-rank-sought-clause-first
returns-else-rank-sought-clause-first c sorted =
    let ps = c.args.names.now in
    let r = c.rank-sought.result in
    let at = c.partition_point-at.result in
    let is : r ≡ rank_of c.args.key = c.rank-sought.ensures ∙ ap rank c.unnamed.ensures in
    let parted = IsPartitionedBy-ltb (λ (p : NamePlace). rank p) ps r sorted in
    let point = IsPartitionPoint-from_clause (λ (p : NamePlace). nat_lt (rank p) r) _ _ c.partition_point-at.ensures.partitioned parted (λ a q k h. search (rules, tests)) in
    ap (place_of ps) (sym is) ∙ none_of ps r at sorted point (λ d lt same. c.if-rank-sought.false (c.rank.ensures ∙ ap rank (get_or_default ps at zero_place d lt) ∙ same))
