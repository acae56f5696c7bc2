use Rattle.std.proofs.Common.{◌≡◌, ℕ, suc, ◌-◌, ◌==◌, ◌∷◌, List, drop, get_or, sym, ◌∙◌, ap, drop-cons, arith}
use Rattle.std.specs.Prelude.{Option, Some}
use Rattle.std.specs.BTreeMap.{get}
use Rattle.std.specs.Ordering.{nat_cmp}
use Rattle.perf_sections.specs.IdTables.{ids_of}
use Rattle.perf_script.specs.Ids.{event_or}
use Rattle.perf_script.proofs.IdTables.{if_alike}
use Rattle.perf_script.proofs.ids.add_ids.Goals as goal

pub loop-left-preserved : goal.loop-left-preserved
loop-left-preserved c =
    let ids : List ℕ = c.args.ids.now in
    let event : ℕ = c.args.event in
    let at : ℕ = c.loop-left.left - 1 in
    let next : suc at ≡ c.loop-left.left = omega (arith, c.loop-left-test.true) in
    let cons : drop at ids ≡ get_or ids at 0 ∷ drop c.loop-left.left ids =
    drop-cons ids at 0 (omega (arith, c.loop-left-test.true, c.loop-left.invariant.0)) ∙ ap (λ n. get_or ids at 0 ∷ drop n ids) next in (
      omega (arith, c.loop-left.invariant.0),
      λ id.
          let old : Option ℕ = get nat_cmp c.args.events.now id in
          c.in_ok-add_id.ensures id
          ∙ if_alike (get_or ids at 0 == id) (Some event) _ _ (c.loop-left.invariant.1 id)
          ∙ ap (λ xs. event_or (ids_of event xs) id old) (sym cons),
    )
