use Rattle.std.proofs.Common.{sym}
use Rattle.perf_sections.specs.NamePlaces.{rank_of}
use Rattle.perf_sections.proofs.NamePlacing.{zero_place, first_place}
use Rattle.perf_sections.proofs.name_places.place_of.Goals as goal

pub returns-in-Some : goal.returns-in-Some
returns-in-Some c = λ sorted. sym (first_place c.args.names.now (rank_of c.args.key) c.in-Some.index zero_place (c.in-Some.ensures.first sorted))
