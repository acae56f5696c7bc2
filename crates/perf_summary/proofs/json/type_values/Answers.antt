use Rattle.std.proofs.Common.{ℕ, List, ◌++◌, get_or, sym, ap, ◌∙◌}
use Rattle.perf_summary.specs.SummaryJson.{type_data}
use Rattle.perf_summary.proofs.Datas.{types_data_more}
use Rattle.perf_summary.proofs.json.type_values.Goals as goal

pub loop-ty-preserved : goal.loop-ty-preserved
loop-ty-preserved c =
    let i : ℕ = c.loop-ty.ty in
    let types : List ℕ = c.args.types.now in
    c.in_ok-push_type.ensures
    ∙ ap (λ ds. ds ++ type_data i (get_or types i 0)) c.loop-ty.invariant
    ∙ sym (types_data_more types i)
