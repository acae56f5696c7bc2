use Rattle.std.proofs.Common.{◌≡◌, ℕ, List, All, length, map, zip, Ok, Err, ap, subst, sym, ◌∙◌}
use Rattle.std.proofs.lemmas.Result.{err_from_is_err_and}
use Rattle.perf_base.specs.Dynamic.{order_of}
use Rattle.perf_base.specs.declared.sys.perf_event_attr.{perf_event_attr}
use Rattle.perf_sections.specs.Attributes.{attribute_at}
use Rattle.perf_sections.specs.IdSections.{id_section_at, entry_count, sections_of, checked_apart}
use Rattle.perf_sections.specs.Names.{name_of, name_view}
use Rattle.perf_sections.specs.Opened.{FileEvent, event_in, event_view, events_in}
use Rattle.perf_sections.specs.Sections.{ShareNothing}
use Rattle.perf_sections.specs.declared.events.Event.{Event}
use Rattle.perf_sections.specs.declared.section.Section.{Section}
use Rattle.perf_sections.proofs.InTurn.{fails}
use Rattle.perf_file.proofs.Whole.{attributes_fail, sections_fail, events_after, same_length, all_inside}
use Rattle.perf_file.proofs.event_list.events_in.Goals as goal

pub returns-in_err-check_apart-clause-exact : goal.returns-in_err-check_apart-clause-exact
returns-in_err-check_apart-clause-exact c =
    let items = c.in_ok-sections_of.ensures ∙ ap (sections_of c.args.head) c.deref.ensures.value in
    let p = err_from_is_err_and c.from_residual-in_err-check_apart.result c.from_residual-in_err-check_apart.ensures.1 in
    rw (p.1, p.2) (fails c.in_err-check_apart.field-0.0 (events_in c.args.bytes.now c.args.head)
    (events_after c.args.bytes.now c.args.head c.in_ok-attributes.attributes.items c.in_ok-sections.sections.items (Err c.in_err-check_apart.field-0.0) c.in_ok-attributes.ensures c.in_ok-sections.ensures.exact
    (ap checked_apart (sym items) ∙ sym c.in_err-check_apart.ensures.value)))

pub events_with-requires-clause-same : goal.events_with-requires-clause-same
events_with-requires-clause-same c =
    ap (λ (xs : List perf_event_attr). length xs) c.deref-2.ensures.value
    ∙ same_length (attribute_at c.args.bytes.now c.args.head) (id_section_at c.args.bytes.now c.args.head) 0 (entry_count c.args.head) c.in_ok-attributes.attributes.items c.in_ok-sections.sections.items c.in_ok-attributes.ensures c.in_ok-sections.ensures.exact
    ∙ sym (ap (λ (xs : List Section). length xs) c.deref-3.ensures.value)

pub returns-clause-exact : goal.returns-clause-exact
returns-clause-exact c =
    let f = event_in (order_of c.args.head.order) c.args.bytes.now in
    let items = c.in_ok-sections_of.ensures ∙ ap (sections_of c.args.head) c.deref.ensures.value in
    let made = c.in_ok-events_with.ensures.value
    ∙ ap (λ (xs : List perf_event_attr). map f (zip xs c.deref-3.result.now)) c.deref-2.ensures.value
    ∙ ap (λ (ys : List Section). map f (zip c.in_ok-attributes.attributes.items ys)) c.deref-3.ensures.value in
    events_after c.args.bytes.now c.args.head c.in_ok-attributes.attributes.items c.in_ok-sections.sections.items (Ok tt) c.in_ok-attributes.ensures c.in_ok-sections.ensures.exact
    (ap checked_apart (sym items) ∙ sym c.in_ok-check_apart.ensures.value)
    ∙ ap (λ (es : List FileEvent). Ok es) (sym made)

pub returns-clause-sound : goal.returns-clause-sound
returns-clause-sound c =
    let items = c.in_ok-sections_of.ensures ∙ ap (sections_of c.args.head) c.deref.ensures.value in (
      c.in_ok-sections.sections.items,
      record {
        ids_are = c.in_ok-sections.ensures.exact;
        inside = all_inside c.args.bytes.now c.args.head c.in_ok-sections.sections.items c.requires.whole c.requires.good c.in_ok-sections.ensures.inside;
        apart = subst ShareNothing items c.in_ok-check_apart.ensures.nothing;
      },
    )

pub returns-in_err-attributes-clause-exact : goal.returns-in_err-attributes-clause-exact
returns-in_err-attributes-clause-exact c =
    let p = err_from_is_err_and c.from_residual.result c.from_residual.ensures.1 in
    rw (p.1, p.2) (attributes_fail c.args.bytes.now c.args.head c.in_err-attributes.field-0.0 c.in_err-attributes.ensures)

pub returns-in_err-sections-clause-exact : goal.returns-in_err-sections-clause-exact
returns-in_err-sections-clause-exact c =
    let p = err_from_is_err_and c.from_residual-in_err-sections.result c.from_residual-in_err-sections.ensures.1 in
    rw (p.1, p.2) (sections_fail c.args.bytes.now c.args.head c.in_ok-attributes.attributes.items c.in_err-sections.field-0.0 c.in_ok-attributes.ensures c.in_err-sections.ensures.exact)

pub returns-in_err-sections_of-clause-exact : goal.returns-in_err-sections_of-clause-exact
returns-in_err-sections_of-clause-exact c =
    let p = err_from_is_err_and c.from_residual-in_err-sections_of.result c.from_residual-in_err-sections_of.ensures.1 in
    rw (p.1, p.2) tt

pub returns-in_err-events_with-clause-exact : goal.returns-in_err-events_with-clause-exact
returns-in_err-events_with-clause-exact c =
    let p = err_from_is_err_and c.from_residual-in_err-events_with.result c.from_residual-in_err-events_with.ensures.1 in
    rw (p.1, p.2) tt

pub returns-clause-order : goal.returns-clause-order
returns-clause-order c = c.in_ok-events_with.ensures.order

pub returns-clause-named : goal.returns-clause-named
returns-clause-named c =
    subst (λ (d : List ℕ). All (λ (e : Event). name_view e.name ≡ name_of c.args.head.order d (event_view e)) c.in_ok-events_with.field-0.items)
    c.find_descriptions-descriptions.ensures c.in_ok-events_with.ensures.named
