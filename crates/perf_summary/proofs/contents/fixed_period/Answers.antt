use Rattle.std.proofs.Common.{◌≡◌, ◌<◌, ◌≤◌, List, length, get_or, ap, subst, sym, ◌∙◌}
use Rattle.std.specs.Prelude.{Option, option_and_then}
use Rattle.perf_sections.specs.Opened.{FileEvent, event_view}
use Rattle.perf_sections.specs.declared.events.Event.{Event}
use Rattle.perf_file.specs.Views.{view}
use Rattle.perf_file.proofs.EntryLaws.{event_there, event_absent}
use Rattle.perf_summary.specs.Contents.{fixed_period, fixed_period_of}
use Rattle.perf_summary.proofs.contents.fixed_period.Goals as goal

pub returns-in-Some : goal.returns-in-Some
returns-in-Some c =
    let items = c.args.recording.now.events.items in
    let n = c.in-Event.number in
    let e = c.in-Some.event.now in
    let lt : n < length items = subst (λ (xs : List Event). n < length xs) c.events.ensures.are c.in-Some.ensures.0 in
    let same : e ≡ get_or items n e = subst (λ (xs : List Event). e ≡ get_or xs n e) c.events.ensures.are c.in-Some.ensures.1 in
    c.fixed_period_of.ensures
    ∙ ap (λ (x : Event). fixed_period (event_view x)) same
    ∙ ap (λ (o : Option FileEvent). option_and_then fixed_period o) (sym (event_there items n e lt))
    ∙ ap (fixed_period_of (view c.args.recording.now)) (sym c.in-Event.is)

pub returns-in-None : goal.returns-in-None
returns-in-None c =
    let items = c.args.recording.now.events.items in
    let n = c.in-Event.number in
    let le : length items ≤ n = subst (λ (xs : List Event). length xs ≤ n) c.events.ensures.are c.in-None.ensures in
    ap (λ (o : Option FileEvent). option_and_then fixed_period o) (sym (event_absent items n le))
    ∙ ap (fixed_period_of (view c.args.recording.now)) (sym c.in-Event.is)
