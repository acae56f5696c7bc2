use Rattle.std.proofs.Common.{◌≡◌, ◌<◌, ◌≤◌, List, length, get_or, Some, ap, subst, sym, ◌∙◌}
use Rattle.std.specs.Prelude.{option_map}
use Rattle.perf_base.specs.Configuration.{Configuration, configured_by}
use Rattle.perf_base.specs.Configured.{endian_of}
use Rattle.perf_sections.specs.Opened.{FileEvent}
use Rattle.perf_sections.specs.declared.events.Event.{Event}
use Rattle.perf_file.proofs.EntryLaws.{event_there, event_absent}
use Rattle.perf_file.proofs.entries.config_at.Goals as goal

pub returns-in-Some-clause-value : goal.returns-in-Some-clause-value
returns-in-Some-clause-value c =
    let items = c.args.recording.now.events.items in
    let n = c.args.number in
    let e = c.in-Some.event.now in
    let lt : n < length items = subst (λ (xs : List Event). n < length xs) c.deref.ensures.value c.in-Some.ensures.0 in
    let same : e ≡ get_or items n e = subst (λ (xs : List Event). e ≡ get_or xs n e) c.deref.ensures.value c.in-Some.ensures.1 in
    ap (λ (k : Configuration). Some k) (c.config.ensures.value ∙ ap (λ (x : Event). configured_by x.attr) same)
    ∙ ap (option_map (λ (x : FileEvent). configured_by x.attribute)) (sym (event_there items n e lt))

pub returns-in-Some-clause-order : goal.returns-in-Some-clause-order
returns-in-Some-clause-order c =
    let items = c.args.recording.now.events.items in
    let n = c.args.number in
    let e = c.in-Some.event.now in
    let lt : n < length items = subst (λ (xs : List Event). n < length xs) c.deref.ensures.value c.in-Some.ensures.0 in
    let same : e ≡ get_or items n e = subst (λ (xs : List Event). e ≡ get_or xs n e) c.deref.ensures.value c.in-Some.ensures.1 in
    ap endian_of c.config.ensures.is ∙ ap (λ (x : Event). endian_of x.config) same ∙ c.args.recording.now.ordered n e lt

pub returns-in-None-clause-value : goal.returns-in-None-clause-value
returns-in-None-clause-value c =
    let items = c.args.recording.now.events.items in
    let le : length items ≤ c.args.number = subst (λ (xs : List Event). length xs ≤ c.args.number) c.deref.ensures.value c.in-None.ensures in
    ap (option_map (λ (x : FileEvent). configured_by x.attribute)) (sym (event_absent items c.args.number le))
