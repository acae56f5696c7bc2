use Rattle.std.proofs.Common.{◌-◌, ap, arith}
use Rattle.std.proofs.lemmas.Bool.{ltb-true}
use Rattle.std.proofs.lemmas.List.{get_or_default}
use Rattle.perf_sections.specs.declared.ids.IdOfEvent.{IdOfEvent}
use Rattle.perf_sections.proofs.Tables.{pair}
use Rattle.perf_sections.proofs.ids.are_less_before.Goals as goal

pub returns-else-at-eq0 : goal.returns-else-at-eq0
returns-else-at-eq0 c sorted less k d lt =
    let last = c.args.at - 1 in
    let same = ap (λ (e : IdOfEvent). e.id) (get_or_default c.args.table.now last (pair 0 0) d (omega arith)) in
    let rises = sorted k last d (omega arith) (omega arith) in
    omega (arith, ltb-true _ _ less, same, rises)
