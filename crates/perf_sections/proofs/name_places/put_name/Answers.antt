use Rattle.std.proofs.Common.{get_or, set, sym, ap, ◌∙◌, arith}
use Rattle.std.proofs.lemmas.List.{set-get_or}
use Rattle.perf_sections.specs.NamePlaces.{rank_of}
use Rattle.perf_sections.proofs.NamePlacing.{zero_place, put_none, first_put, named_kept, named_new}
use Rattle.perf_sections.proofs.name_places.put_name.Goals as goal

pub returns-in_default : goal.returns-in_default
returns-in_default c = sym (put_none c.args.names.now (rank_of c.args.key) c.args.name (c.in_default.ensures.first c.requires))

pub returns-then-names-index-gt0 : goal.returns-then-names-index-gt0
returns-then-names-index-gt0 c =
    let ps = c.args.names.now in
    let i = c.in-Some.index in
    sym (first_put ps (rank_of c.args.key) i zero_place c.args.name (c.in-Some.ensures.first c.requires)
    ∙ ap (λ p. set ps i p) (named_kept (get_or ps i zero_place) c.args.name (omega arith)) ∙ set-get_or ps i zero_place)

pub returns : goal.returns
returns c =
    let ps = c.args.names.now in
    let i = c.in-Some.index in
    sym (first_put ps (rank_of c.args.key) i zero_place c.args.name (c.in-Some.ensures.first c.requires)
    ∙ ap (λ p. set ps i p) (named_new (get_or ps i zero_place) c.args.name (omega arith)))
