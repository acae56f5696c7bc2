use Rattle.std.proofs.Common.{◌≡◌, ◌+◌, ◌<◌, ◌≤◌, ◌++◌, ◌∷◌, [], List, map, take, length, get_or, ap, sym, ◌∙◌, arith}
use Rattle.std.proofs.lemmas.Grind.{take-set_at}
use Rattle.std.proofs.lemmas.List.{take_all, take_more, map_push}
use Rattle.perf_base.specs.Dynamic.{order_of}
use Rattle.perf_sections.specs.NamePlaces.{unnamed}
use Rattle.perf_sections.specs.declared.name_places.NamePlace.{NamePlace}
use Rattle.perf_outlines.specs.FlatNames.{flat_key}
use Rattle.perf_outlines.specs.declared.file_events.FlatEvent.{FlatEvent}
use Rattle.perf_outlines.proofs.file_names.fill_keys.Goals as goal

pub loop-index-preserved : goal.loop-index-preserved
loop-index-preserved c =
    let f = λ (e : FlatEvent). unnamed (flat_key (order_of c.args.order) c.args.bytes.now e) in
    let i = c.loop-index.index in
    let all = c.args.all.now in
    let found = c.loop-index.found in
    let x = c.unnamed.result in
    let e = get_or all i _ in
    let x_is : x ≡ f e = c.unnamed.ensures ∙ ap unnamed c.key_of.ensures.value in
    let room : i < length found = omega (arith, c.loop-index.auto.found, c.requires, c.loop-index-test.true) in
    take-set_at found i (i + 1) x (omega arith) room
    ∙ ap (λ (ps : List NamePlace). ps ++ x ∷ []) c.loop-index.invariant
    ∙ ap (λ (p : NamePlace). map f (take i all) ++ p ∷ []) x_is
    ∙ sym (map_push f (take i all) e)
    ∙ ap (map f) (sym (take_more all i _ (omega arith)))

pub returns : goal.returns
returns c =
    let i = c.loop-index.index in
    let f = λ (e : FlatEvent). unnamed (flat_key (order_of c.args.order) c.args.bytes.now e) in
    let full : length c.loop-index.found ≤ i = omega (arith, c.loop-index.auto.found, c.requires, c.loop-index-test.false) in
    sym (take_all i c.loop-index.found full) ∙ c.loop-index.invariant ∙ ap (map f) (take_all i c.args.all.now (omega arith))
