use Rattle.std.proofs.Common.{◌≡◌, ◌+◌, ◌≤◌, ◌++◌, ◌∷◌, [], List, length, map, get_or, take, zip, ap, sym, ◌∙◌, arith}
use Rattle.std.proofs.lemmas.List.{map_push}
use Rattle.std.proofs.lemmas.List.Elements.{All-push}
use Rattle.perf_base.specs.Attribute.{zero_attribute}
use Rattle.perf_base.specs.Configured.{endian_of}
use Rattle.perf_base.specs.Dynamic.{order_of}
use Rattle.perf_sections.specs.Names.{name_view, name_of}
use Rattle.perf_sections.specs.Opened.{FileEvent, event_view, event_in}
use Rattle.perf_sections.specs.declared.events.Event.{Event}
use Rattle.perf_sections.specs.declared.section.Section.{Section}
use Rattle.perf_sections.proofs.Zipped.{zip_more, zip_all}
use Rattle.perf_sections.proofs.reading.events_with.Goals as goal

pub loop-index-preserved : goal.loop-index-preserved
loop-index-preserved c =
    let f = event_in (order_of c.args.order) c.args.bytes.now in
    let pairs = zip c.args.attributes.now c.args.sections.now in
    let lt = c.loop-index-test.true in
    let a = get_or c.args.attributes.now c.loop-index.index zero_attribute in
    let zero_section : Section = record { start = 0; size = 0 } in
    let s = get_or c.args.sections.now c.loop-index.index zero_section in
    let more = zip_more f c.args.attributes.now c.args.sections.now c.loop-index.index zero_attribute zero_section (omega arith) (omega arith) in
    let one : map event_view (c.loop-index.events.items ++ c.in_ok-event.event ∷ []) ≡ map f (take (c.loop-index.index + 1) pairs) =
    map_push event_view c.loop-index.events.items c.in_ok-event.event
    ∙ ap (λ (xs : List FileEvent). xs ++ event_view c.in_ok-event.event ∷ []) c.loop-index.invariant.0
    ∙ ap (λ (e : FileEvent). map f (take c.loop-index.index pairs) ++ e ∷ []) c.in_ok-event.ensures.value
    ∙ sym more in (
      rw c.in_ok-push.ensures.items one,
      rw c.in_ok-push.ensures.items (All-push (λ (e : Event). endian_of e.config ≡ c.args.order) _ _ c.loop-index.invariant.1 c.in_ok-event.ensures.order),
      rw c.in_ok-push.ensures.items (All-push (λ (e : Event). name_view e.name ≡ name_of c.args.order c.args.descriptions.now (event_view e)) _ _ c.loop-index.invariant.2 (c.in_ok-event.ensures.name ∙ c.name_with-name.ensures ∙ ap (name_of c.args.order c.args.descriptions.now) (sym c.in_ok-event.ensures.value))),
    )

pub returns-clause-value : goal.returns-clause-value
returns-clause-value c =
    let all : length c.args.sections.now ≤ c.loop-index.index = omega arith in
    c.loop-index.invariant.0 ∙ ap (map (event_in (order_of c.args.order) c.args.bytes.now)) (zip_all c.args.attributes.now c.args.sections.now c.loop-index.index all)

pub name_with-name-requires-clause-kept : goal.name_with-name-requires-clause-kept
name_with-name-requires-clause-kept c =
    let zero_section : Section = record { start = 0; size = 0 } in
    rw c.deref.ensures.value (c.in_ok-places.ensures.kept c.loop-index.index zero_attribute zero_section (omega arith))
