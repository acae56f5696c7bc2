use Rattle.std.proofs.Common.{◌≡◌, ℕ, suc, ◌+◌, ◌-◌, ◌∷◌, List, drop, sym, ◌∙◌, ap, drop-cons, arith}
use Rattle.perf_sections.specs.IdTables.{ids_of, event_of}
use Rattle.perf_sections.specs.declared.events.Event.{Event}
use Rattle.perf_script.specs.Ids.{event_or}
use Rattle.perf_script.proofs.IdTables.{ids_from, event_append}
use Rattle.perf_script.proofs.ids.Ids.of.Goals as goal

pub loop-left-preserved : goal.loop-left-preserved
loop-left-preserved c =
    let events : List Event = c.events-list.result.now in
    let left : ℕ = c.loop-left.left in
    let at : ℕ = left - 1 in
    let e : Event = c.index-list-left.result in
    let rest : List Event = drop left events in
    let next : at + 1 ≡ left = omega (arith, c.loop-left-test.true) in
    let suc_next : suc at ≡ left = omega (arith, c.loop-left-test.true) in
    let cons : drop at events ≡ e ∷ rest =
    drop-cons events at e (omega (arith, c.loop-left-test.true, c.loop-left.invariant.0)) ∙ ap (λ x. x ∷ drop (suc at) events) (sym c.index-list-left.is) ∙ ap (λ n. e ∷ drop n events) suc_next in (
      omega (arith, c.loop-left.invariant.0),
      λ id.
          c.in_ok-add_ids.ensures id
          ∙ ap (event_or (ids_of at c.ids.result.now) id) (c.loop-left.invariant.1 id)
          ∙ ap (λ n. event_or (ids_of at c.ids.result.now) id (event_of (ids_from n rest) id)) (sym next)
          ∙ ap (λ xs. event_or (ids_of at xs) id (event_of (ids_from (at + 1) rest) id)) c.ids.ensures
          ∙ sym (event_append (ids_of at e.ids.items) (ids_from (at + 1) rest) id)
          ∙ ap (λ es. event_of (ids_from at es) id) (sym cons),
    )
