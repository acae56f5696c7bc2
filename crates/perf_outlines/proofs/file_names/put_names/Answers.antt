use Rattle.std.proofs.Common.{◌≡◌, ◌+◌, ◌<◌, ◌≤◌, ◌++◌, ◌∷◌, [], List, map, take, length, get_or, refl, ap, sym, subst, ◌∙◌, arith}
use Rattle.std.proofs.Math.Seq.{map-set_same}
use Rattle.std.proofs.lemmas.Grind.{take-set_at}
use Rattle.std.proofs.lemmas.List.{take_all, take_more, map_push}
use Rattle.perf_base.specs.Dynamic.{order_of}
use Rattle.perf_sections.specs.NamePlaces.{HasRank, rank_of}
use Rattle.perf_outlines.specs.NotePlaces.{bytes_of}
use Rattle.perf_sections.specs.Names.{Name, described_or, name_by_numbers}
use Rattle.perf_outlines.specs.FlatNames.{flat_key, flat_name, described_by, nameless}
use Rattle.perf_outlines.specs.declared.file_events.FlatEvent.{FlatEvent}
use Rattle.perf_outlines.proofs.NameLaws.{zero_event, nameless_at}
use Rattle.perf_outlines.proofs.file_names.put_names.Goals as goal

pub name_of-name-requires-clause-kept : goal.name_of-name-requires-clause-kept
name_of-name-requires-clause-kept c =
    let o = order_of c.args.order in
    let i = c.loop-index.index in
    let lt : i < length c.loop-index.all = omega (arith, c.loop-index.auto.all, c.loop-index-test.true) in
    let same = nameless_at c.loop-index.all c.args.all.now i zero_event c.loop-index.invariant.same lt in
    subst (λ k. HasRank c.args.found.now (rank_of k)) (sym (ap (λ (e : FlatEvent). flat_key o c.args.bytes.now e) same)) (c.requires.kept i zero_event (omega (arith, lt, c.loop-index.auto.all)))

pub loop-index-preserved : goal.loop-index-preserved
loop-index-preserved c =
    let o = order_of c.args.order in
    let ds = bytes_of c.args.bytes.now c.args.descriptions in
    let bytes = c.args.bytes.now in
    let i = c.loop-index.index in
    let all = c.loop-index.all in
    let old = c.args.all.now in
    let place = c.name_of-name.result in
    let e : FlatEvent = get_or all i zero_event in
    let e' : FlatEvent = record e { name = place } in
    let lt : i < length all = omega (arith, c.loop-index.auto.all, c.loop-index-test.true) in
    let there : i < length old = omega (arith, lt, c.loop-index.auto.all) in
    let same = nameless_at all old i zero_event c.loop-index.invariant.same lt in
    let own : flat_name bytes e' ≡ described_by o ds bytes e = ap (λ x. described_or x (name_by_numbers e.type_ e.event)) c.name_of-name.ensures in
    let both : flat_name bytes e' ≡ described_by o ds bytes (get_or old i zero_event) = own ∙ ap (λ (x : FlatEvent). described_by o ds bytes x) same in
    record {
      names = ap (map (flat_name bytes)) (take-set_at all i (i + 1) e' (omega arith) lt)
          ∙ map_push (flat_name bytes) (take i all) e'
          ∙ ap (λ (xs : List Name). xs ++ flat_name bytes e' ∷ []) c.loop-index.invariant.names
          ∙ ap (λ (x : Name). map (described_by o ds bytes) (take i old) ++ x ∷ []) both
          ∙ sym (map_push (described_by o ds bytes) (take i old) (get_or old i zero_event))
          ∙ ap (map (described_by o ds bytes)) (sym (take_more old i zero_event there));
      same = map-set_same nameless all i e' zero_event refl ∙ c.loop-index.invariant.same;
    }

pub returns : goal.returns
returns c =
    let i = c.loop-index.index in
    let all = c.loop-index.all in
    let old = c.args.all.now in
    let full : length all ≤ i = omega (arith, c.loop-index.auto.all, c.loop-index-test.false) in
    record {
      names = sym (ap (map (flat_name c.args.bytes.now)) (take_all i all full)) ∙ c.loop-index.invariant.names ∙ ap (map (described_by (order_of c.args.order) (bytes_of c.args.bytes.now c.args.descriptions) c.args.bytes.now)) (take_all i old (omega (arith, full, c.loop-index.auto.all)));
      same = c.loop-index.invariant.same;
    }
