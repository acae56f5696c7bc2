use Rattle.std.proofs.Common.{◌∙◌, rules}
use Rattle.std.proofs.lemmas.List.Sorted.{IsNonDecreasingBy-from_sort_by_key, All-permutation}
use Rattle.perf_sections.specs.Sections.{IsSmall}
use Rattle.perf_sections.specs.declared.section.Section.{Section}
use Rattle.perf_sections.proofs.Sweeping.{nothing_moved_on, apart_moved}
use Rattle.perf_outlines.proofs.parts.parts_are_apart.Goals as goal

pub sorted_are_apart-requires-clause-small : goal.sorted_are_apart-requires-clause-small
sorted_are_apart-requires-clause-small c = All-permutation IsSmall _ _ c.sort_unstable_by_key.ensures.permutation c.requires

pub sorted_are_apart-requires-clause-sorted : goal.sorted_are_apart-requires-clause-sorted
sorted_are_apart-requires-clause-sorted c = IsNonDecreasingBy-from_sort_by_key (λ (s : Section). s.start) _ c.sort_unstable_by_key.ensures.sorted (λ a r q k. search rules)

pub returns-clause-value : goal.returns-clause-value
returns-clause-value c = c.sorted_are_apart.ensures.value ∙ apart_moved _ _ c.sort_unstable_by_key.ensures.permutation

pub returns-clause-nothing : goal.returns-clause-nothing
returns-clause-nothing c = nothing_moved_on c.sorted_are_apart.result _ _ c.sort_unstable_by_key.ensures.permutation c.sorted_are_apart.ensures.nothing

pub returns-clause-sorted : goal.returns-clause-sorted
returns-clause-sorted c = IsNonDecreasingBy-from_sort_by_key (λ (s : Section). s.start) _ c.sort_unstable_by_key.ensures.sorted (λ a r q k. search rules)
