use Rattle.std.proofs.Common.{List, get_or, Contains, All, sym, subst}
use Rattle.perf_base.specs.Dynamic.{order_of}
use Rattle.perf_sections.specs.NamePlaces.{IsUnnamed, unnamed}
use Rattle.perf_sections.specs.declared.name_places.NamePlace.{NamePlace}
use Rattle.perf_outlines.specs.FlatNames.{flat_key}
use Rattle.perf_outlines.specs.declared.file_events.FlatEvent.{FlatEvent}
use Rattle.perf_outlines.proofs.NameLaws.{contains_map, all_unnamed}
use Rattle.perf_outlines.proofs.file_names.find_all.Goals as goal

pub find_names-requires : goal.find_names-requires
find_names-requires c = subst (All IsUnnamed) (sym c.fill_keys.ensures) (all_unnamed (λ (e : FlatEvent). flat_key (order_of c.args.order) c.args.bytes.now e) c.args.all.now)

pub put_names-requires-clause-kept : goal.put_names-requires-clause-kept
put_names-requires-clause-kept c index e lt =
    let f = λ (x : FlatEvent). unnamed (flat_key (order_of c.args.order) c.args.bytes.now x) in
    let x = get_or c.args.all.now index e in
    c.find_names.ensures.kept (f x) (subst (λ (ps : List NamePlace). Contains ps (f x)) (sym c.fill_keys.ensures) (contains_map f c.args.all.now index e lt))
