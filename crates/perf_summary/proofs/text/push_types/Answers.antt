use Rattle.std.proofs.Common.{◌++◌, ℕ, List, get_or, string_bytes, sym, ap, ◌∙◌, append_assoc}
use Rattle.perf_summary.specs.OwnLines.{own_type_lines}
use Rattle.perf_summary.specs.SummaryText.{type_line}
use Rattle.perf_summary.proofs.Naming.{types_more}
use Rattle.perf_summary.proofs.text.push_types.Goals as goal

pub loop-ty-preserved : goal.loop-ty-preserved
loop-ty-preserved c =
    let i : ℕ = c.loop-ty.ty in
    let types : List ℕ = c.args.types.now in
    let this : List ℕ = type_line i (get_or types i 0) in
    let old : List ℕ = string_bytes c.args.text.now in
    c.in_ok-push_type.ensures
    ∙ ap (λ text. text ++ this) c.loop-ty.invariant
    ∙ append_assoc old (own_type_lines types i) this
    ∙ ap (λ rest. old ++ rest) (sym (types_more types i))
