use Rattle.std.proofs.Common.{◌++◌, ℕ, List, take, string_bytes, sym, ap, ◌∙◌, append_assoc, arith}
use Rattle.perf_data_text.specs.OwnNames.{own_line, own_lines}
use Rattle.perf_data_text.proofs.Naming.{own_more}
use Rattle.perf_data_text.proofs.events.push_events.Goals as goal

pub loop-index-preserved : goal.loop-index-preserved
loop-index-preserved c =
    let i : ℕ = c.loop-index.index in
    let list = c.args.list.now in
    let here = c.index-list-index.result in
    let old : List ℕ = string_bytes c.args.text.now in
    let this : List ℕ = own_line i here in
    c.in_ok-push_event.ensures
    ∙ ap (λ text. text ++ this) c.loop-index.invariant
    ∙ append_assoc old (own_lines 0 (take i list)) this
    ∙ ap (λ rest. old ++ rest) (sym (own_more list i here (omega (arith, c.loop-index-test.true)) c.index-list-index.is))
