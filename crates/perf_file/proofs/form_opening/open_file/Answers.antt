use Rattle.std.proofs.Common.{◌≡◌, List, map, Ok, refl, subst, sym}
use Rattle.std.proofs.lemmas.Result.{err_from_is_err_and}
use Rattle.perf_sections.specs.Opened.{event_view, opened_file, checked_events, file_with}
use Rattle.perf_sections.specs.Opens.{◌>>=◌, Fails}
use Rattle.perf_sections.specs.declared.events.Event.{Event}
use Rattle.perf_file.proofs.Whole.{head_fails, events_fail, opened_whole, named_here, opened_after, fails_first, fails_by}
use Rattle.perf_file.proofs.form_opening.open_file.Goals as goal

pub returns-in_err-ids-clause-exact : goal.returns-in_err-ids-clause-exact
returns-in_err-ids-clause-exact c =
    let e = c.in_err-ids.field-0.0 in
    let evs = map event_view c.in_ok-events.events.items in
    let p = err_from_is_err_and c.from_residual-in_err-ids.result c.from_residual-in_err-ids.ensures.1 in
    let refused : Fails e (checked_events evs) = subst (λ (xs : List Event). Fails e (checked_events (map event_view xs))) c.deref.ensures.value c.in_err-ids.ensures.exact in
    rw (p.1, p.2) (fails_by e (checked_events evs >>= λ done. Ok (file_with c.args.bytes.now c.in_ok-head.head evs)) (opened_file c.args.bytes.now)
    (opened_after c.args.bytes.now c.in_ok-head.head evs (checked_events evs) (sym c.in_ok-head.ensures.value) c.in_ok-events.ensures.exact refl)
    (fails_first e (checked_events evs) (λ done. Ok (file_with c.args.bytes.now c.in_ok-head.head evs)) refused))

pub returns-in_err-head-clause-exact : goal.returns-in_err-head-clause-exact
returns-in_err-head-clause-exact c =
    let p = err_from_is_err_and c.from_residual.result c.from_residual.ensures.1 in
    rw (p.1, p.2) (head_fails c.args.bytes.now c.in_err-head.field-0.0 (sym c.in_err-head.ensures.value))

pub returns-in_err-events-clause-exact : goal.returns-in_err-events-clause-exact
returns-in_err-events-clause-exact c =
    let p = err_from_is_err_and c.from_residual-in_err-events.result c.from_residual-in_err-events.ensures.1 in
    rw (p.1, p.2) (events_fail c.args.bytes.now c.in_ok-head.head c.in_err-events.field-0.0 (sym c.in_ok-head.ensures.value) c.in_err-events.ensures.exact)

pub returns-clause-exact : goal.returns-clause-exact
returns-clause-exact c =
    let evs = map event_view c.in_ok-events.events.items in
    let found : checked_events evs ≡ Ok tt = subst (λ (xs : List Event). checked_events (map event_view xs) ≡ Ok tt) c.deref.ensures.value c.in_ok-ids.ensures.exact in
    opened_whole c.args.bytes.now c.in_ok-head.head evs c.bytes_at.result.now (sym c.in_ok-head.ensures.value) c.in_ok-events.ensures.exact found c.bytes_at.ensures

pub returns-clause-sound : goal.returns-clause-sound
returns-clause-sound c =
    let sound = c.in_ok-events.ensures.sound in (c.in_ok-head.head, sound.0, (c.in_ok-head.ensures.head, sound.1))

pub returns-clause-named : goal.returns-clause-named
returns-clause-named c = named_here c.args.bytes.now c.in_ok-head.head c.in_ok-events.events.items c.in_ok-head.ensures.head c.in_ok-events.ensures.named
