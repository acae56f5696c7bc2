use Rattle.std.proofs.Common.{◌≡◌, ◌+◌, ◌-◌, ◌∷◌, List, ℕ, true, drop, ap, subst, sym, ◌∙◌, arith}
use Rattle.std.proofs.lemmas.List.{length-drop}
use Rattle.perf_base.specs.Dynamic.{order_of}
use Rattle.perf_sections.specs.Descriptions.{Description, description_in, descriptions, description_length, is_whole, first_name}
use Rattle.perf_sections.specs.NamePlaces.{key_in, rank_of, put, Fits}
use Rattle.perf_sections.specs.declared.descriptions.EventKey.{EventKey}
use Rattle.perf_sections.proofs.NamePlacing.{AreLeft, none_yet, all_named, no_description, all_described, next_description, whole_room, one_more, rises_put, has_put}
use Rattle.perf_sections.proofs.name_places.find_among.Goals as goal

pub loop-index-init : goal.loop-index-init
loop-index-init c = record {
  inside = c.requires.room;
  sorted = c.requires.sorted;
  kept = λ r has. has;
  left =
      let all : c.args.count - 0 ≡ c.args.count = omega arith in
      rw all (none_yet c.args.bytes.now c.args.names.now (descriptions (order_of c.args.order) c.args.size c.args.count (drop 8 c.args.bytes.now)) c.requires.none);
}

pub returns-then-not-is_whole-clause-named : goal.returns-then-not-is_whole-clause-named
returns-then-not-is_whole-clause-named c =
    let o = order_of c.args.order in
    let bytes = c.args.bytes.now in
    let at = c.loop-index.at in
    let cut = sym (c.if-not-is_whole.ensures ∙ ap (is_whole o c.args.size) c.split_at.ensures.back) in
    all_named bytes c.loop-index.names _ _ (no_description o c.args.size c.args.count c.loop-index._index (drop at bytes) c.loop-index-test.true cut) c.loop-index.invariant.left

pub returns-clause-named : goal.returns-clause-named
returns-clause-named c =
    all_named c.args.bytes.now c.loop-index.names _ _ (all_described (order_of c.args.order) c.args.size c.args.count c.loop-index._index (drop c.loop-index.at c.args.bytes.now) c.loop-index-test.false) c.loop-index.invariant.left

pub loop-index-preserved : goal.loop-index-preserved
loop-index-preserved c =
    let o = order_of c.args.order in
    let bytes = c.args.bytes.now in
    let size = c.args.size in
    let at = c.loop-index.at in
    let i = c.loop-index._index in
    let ps = c.loop-index.names in
    let left : c.split_at.result.1.now ≡ drop at bytes = c.split_at.ensures.back in
    let d : Description = description_in o size (drop at bytes) in
    let place = c.name_place-name.result in
    let whole : is_whole o size (drop at bytes) ≡ true = sym (c.if-not-is_whole.ensures ∙ ap (is_whole o size) left) in
    let key_is : c.key_in.result ≡ key_in d = c.key_in.ensures.value ∙ ap (λ (xs : List ℕ). key_in (description_in o size xs)) left in
    let fits : Fits (key_in d) = subst Fits key_is c.key_in.ensures.fits in
    let names : c.put_name.new.names ≡ put (rank_of (key_in d)) place ps = c.put_name.ensures ∙ ap (λ (k : EventKey). put (rank_of k) place ps) key_is in
    let long : c.description_length-at.result ≡ description_length o size (drop at bytes) = c.description_length-at.ensures ∙ ap (description_length o size) left in
    let room = whole_room o size (drop at bytes) whole in
    let far = length-drop at bytes in
    let total = λ (key : EventKey). first_name key (descriptions o size c.args.count (drop 8 bytes)) in
    let rest = descriptions o size (c.args.count - (i + 1)) (drop (at + description_length o size (drop at bytes)) bytes) in
    let more : AreLeft bytes ps (d ∷ rest) total = subst (λ (ds : List Description). AreLeft bytes ps ds total) (next_description o size c.args.count i at bytes c.loop-index-test.true whole) c.loop-index.invariant.left in
    let next = one_more bytes ps d rest place total fits c.name_place-name.ensures more in
    record {
      inside = omega (arith, long, room, far, c.loop-index.invariant.inside);
      sorted = rw names (rises_put ps (rank_of (key_in d)) place c.loop-index.invariant.sorted);
      kept = λ r has. rw names (has_put ps (rank_of (key_in d)) r place (c.loop-index.invariant.kept r has));
      left = rw (names, long) next;
    }
