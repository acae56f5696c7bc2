use Rattle.std.proofs.lemmas.List.Sorted.{All-permutation, Contains-permutation}
use Rattle.perf_sections.specs.NamePlaces.{IsUnnamed, rank}
use Rattle.perf_sections.proofs.NamePlacing.{rank_there}
use Rattle.perf_sections.proofs.name_places.find_names.Goals as goal

pub find_sorted-requires-clause-none : goal.find_sorted-requires-clause-none
find_sorted-requires-clause-none c = All-permutation IsUnnamed _ _ c.sort_keys.ensures.same c.requires

pub returns-clause-kept : goal.returns-clause-kept
returns-clause-kept c = λ place here. c.find_sorted.ensures.kept (rank place) (rank_there c.sort_keys.new.names place (Contains-permutation c.args.names.now c.sort_keys.new.names place c.sort_keys.ensures.same here))
