use Rattle.std.proofs.Common.{rules}
use Rattle.std.proofs.lemmas.List.Sorted.{IsNonDecreasingBy-from_sort_by_key}
use Rattle.perf_sections.specs.NamePlaces.{rank}
use Rattle.perf_sections.specs.declared.name_places.NamePlace.{NamePlace}
use Rattle.perf_sections.proofs.name_places.sort_keys.Goals as goal

pub returns-clause-sorted : goal.returns-clause-sorted
returns-clause-sorted c = IsNonDecreasingBy-from_sort_by_key (λ (p : NamePlace). rank p) _ c.sort_unstable_by_key.ensures.sorted (λ a r q k. search rules)
