use Rattle.std.proofs.Common.{◌≡◌, ◌++◌, ◌<◌, ℕ, List, All, length, map, take, drop, get_or, sym, subst, ap, ◌∙◌, arith}
use Rattle.std.proofs.Math.Seq.{take-append_seam}
use Rattle.perf_base.specs.Configured.{endian_of}
use Rattle.perf_base.specs.Dynamic.{order_of}
use Rattle.perf_sections.specs.Features.{or_nothing}
use Rattle.perf_sections.specs.IdTables.{event_of}
use Rattle.perf_sections.specs.Names.{name_of, name_view}
use Rattle.perf_file.specs.NoteViews.{note_of}
use Rattle.perf_sections.specs.Opened.{event_view, table_of}
use Rattle.perf_file.specs.Pipes.{last_name, named_by, noted_feature, noted_name}
use Rattle.perf_sections.specs.declared.events.Event.{Event}
use Rattle.perf_file.proofs.NewNames.{all_named, as_many}
use Rattle.perf_file.proofs.piped.found_pipe_events.Goals as goal

pub returns-clause-order : goal.returns-clause-order
returns-clause-order c =
    let now = c.rename_all.new.events in
    let old = c.in_ok-events.events.items in
    let views = c.rename_all.ensures.same ∙ ap (λ (es : List Event). map event_view es) c.deref_mut.ensures.value in
    let count : c.in_ok-events.events.len ≡ length now = omega (arith, as_many now old views) in
    let same : take c.in_ok-events.events.len (now ++ drop (length now) old) ≡ now = ap (λ n. take n (now ++ drop (length now) old)) count ∙ take-append_seam now (drop (length now) old) in
    let before = subst (λ (es : List Event). All (λ (e : Event). endian_of e.config ≡ c.args.order) es) (sym c.deref_mut.ensures.value) c.in_ok-events.ensures.order in
    subst (λ (es : List Event). All (λ (e : Event). endian_of e.config ≡ c.args.order) es) (sym same) (c.rename_all.ensures.order c.args.order before)

pub returns-clause-named : goal.returns-clause-named
returns-clause-named c =
    let now = c.rename_all.new.events in
    let old = c.in_ok-events.events.items in
    let o = order_of c.args.order in
    let notes = map note_of c.args.notes.now in
    let table = c.deref-2.result.now in
    let views : map event_view now ≡ map event_view old = c.rename_all.ensures.same ∙ ap (λ (es : List Event). map event_view es) c.deref_mut.ensures.value in
    let count : c.in_ok-events.events.len ≡ length now = omega (arith, as_many now old views) in
    let same : take c.in_ok-events.events.len (now ++ drop (length now) old) ≡ now = ap (λ n. take n (now ++ drop (length now) old)) count ∙ take-append_seam now (drop (length now) old) in
    let found : (id : ℕ) → event_of table id ≡ event_of (table_of (map event_view old)) id = λ id. ap (λ t. event_of t id) c.deref-2.ensures.value ∙ c.in_ok-ids.ensures.found id ∙ ap (λ (es : List Event). event_of (table_of (map event_view es)) id) c.deref.ensures.value in
    let renamed : (n : ℕ) (d : Event) → n < length now → name_view (get_or now n d).name ≡ named_by (last_name o table n notes) (name_view (get_or old n d).name) = λ n d lt. subst (λ (es : List Event). name_view (get_or now n d).name ≡ named_by (last_name o table n notes) (name_view (get_or es n d).name)) c.deref_mut.ensures.value
    (c.rename_all.ensures.named n d (omega (arith, lt, as_many now c.deref_mut.result.now c.rename_all.ensures.same))) in
    subst (λ (es : List Event). (n : ℕ) (d : Event) → n < length es → name_view (get_or es n d).name ≡ noted_name c.args.order notes (table_of (map event_view es)) n (event_view (get_or es n d))) (sym same)
    (λ n d lt. all_named o notes table now old (name_of c.args.order (or_nothing (noted_feature o 12 notes))) n d views found lt (c.in_ok-events.ensures.named n d (omega (arith, lt, as_many now old views))) (renamed n d lt))
