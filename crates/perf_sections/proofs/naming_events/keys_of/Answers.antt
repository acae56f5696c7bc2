use Rattle.std.proofs.Common.{◌≡◌, ◌++◌, ◌∷◌, [], Contains, get_or, inl, inr, ap, subst, ◌∙◌, arith}
use Rattle.std.proofs.lemmas.Bool.{cases_lt}
use Rattle.std.proofs.lemmas.List.{get_or_default}
use Rattle.std.proofs.lemmas.List.Elements.{All-push, Contains-push}
use Rattle.perf_base.specs.Attribute.{zero_attribute}
use Rattle.perf_base.specs.Dynamic.{order_of}
use Rattle.perf_base.specs.declared.sys.perf_event_attr.{perf_event_attr}
use Rattle.perf_sections.specs.NamePlaces.{IsUnnamed, unnamed}
use Rattle.perf_sections.specs.Names.{key_of}
use Rattle.perf_sections.specs.Opened.{event_in}
use Rattle.perf_sections.specs.declared.name_places.NamePlace.{NamePlace}
use Rattle.perf_sections.specs.declared.section.Section.{Section}
use Rattle.perf_sections.proofs.NamePlacing.{contains_more}
use Rattle.perf_sections.proofs.naming_events.keys_of.Goals as goal

pub loop-index-preserved : goal.loop-index-preserved
loop-index-preserved c =
    let ats = c.args.attributes.now in
    let ss = c.args.sections.now in
    let i = c.loop-index.index in
    let found = c.loop-index.found.items in
    let x = c.unnamed.result in
    let f = λ (a : perf_event_attr) (s : Section). unnamed (key_of (event_in (order_of c.args.order) c.args.bytes.now (a, s))) in
    let zero_section : Section = record { start = 0; size = 0 } in
    let x_is : x ≡ f (get_or ats i zero_attribute) (get_or ss i zero_section) = c.unnamed.ensures ∙ ap unnamed c.key_of.ensures.value in
    let none : IsUnnamed x = ap (λ (p : NamePlace). p.name.start) c.unnamed.ensures in
    record {
      none = rw c.in_ok-push.ensures.items (All-push IsUnnamed found x c.loop-index.invariant.none none);
      keys = λ k a s lt. rw c.in_ok-push.ensures.items (elim (cases_lt k i) [
        | inl below ↦ contains_more found x (f (get_or ats k a) (get_or ss k s)) (c.loop-index.invariant.keys k a s below)
        | inr above ↦
            let same : i ≡ k = omega arith in
            let at : get_or ats i zero_attribute ≡ get_or ats k a = get_or_default ats i zero_attribute a (omega arith) ∙ ap (λ n. get_or ats n a) same in
            let se : get_or ss i zero_section ≡ get_or ss k s = get_or_default ss i zero_section s (omega arith) ∙ ap (λ n. get_or ss n s) same in
            subst (λ y. Contains (found ++ x ∷ []) y) (x_is ∙ ap (λ y. f y (get_or ss i zero_section)) at ∙ ap (λ y. f (get_or ats k a) y) se) (Contains-push found x)
      ]);
    }
