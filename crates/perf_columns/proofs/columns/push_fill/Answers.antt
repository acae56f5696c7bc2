use Rattle.std.proofs.Common.{◌≡◌, ℕ, ◌+◌, ◌-◌, ◌++◌, List, replicate, take, ◌∙◌, ap, append_assoc, arith}
use Rattle.std.proofs.lemmas.List.{replicate-append-replicate, take-replicate}
use Rattle.std.proofs.lemmas.Result.{on_ok_weaker}
use Rattle.perf_columns.proofs.Appended.{appended}
use Rattle.perf_columns.proofs.columns.push_fill.Goals as goal

pub loop-left-preserved : goal.loop-left-preserved
loop-left-preserved c =
    let old : List ℕ = c.loop-left.text.items in
    let left : ℕ = c.loop-left.left in
    let fill : ℕ = c.args.fill in
    let same : 16 + (left - 16) ≡ left = omega (arith, c.loop-left-test.true) in
    ap (λ t. t ++ replicate (left - 16) fill) c.in_ok-extend_from_slice.ensures.items ∙ append_assoc old (replicate 16 fill) (replicate (left - 16) fill)
    ∙ ap (λ t. old ++ t) (replicate-append-replicate 16 (left - 16) fill ∙ ap (λ n. replicate n fill) same) ∙ c.loop-left.invariant

pub returns : goal.returns
returns c =
    let left : ℕ = c.loop-left.left in
    let fill : ℕ = c.args.fill in
    on_ok_weaker c.extend_from_slice-2.result (λ e. e ∙ c.loop-left.invariant)
    (appended c.extend_from_slice-2.result c.loop-left.text.items c.extend_from_slice-2.new.self.items (take left (replicate 16 fill)) (replicate left fill)
    c.extend_from_slice-2.ensures.items (take-replicate left 16 fill c.loop-left-test.false))
