use Rattle.std.proofs.Common.{◌≡◌, ℕ, true, List, ◌++◌, sym, ◌∙◌, ap}
use Rattle.std.proofs.lemmas.Result.{on_ok_weaker}
use Rattle.perf_script.specs.Heads.{text_if}
use Rattle.perf_script.specs.ScriptText.{side_at}
use Rattle.perf_script.specs.declared.fields.Style.{Style}
use Rattle.perf_script.proofs.script.push_record_if.Goals as goal

pub returns-then-events : goal.returns-then-events
returns-then-events c = λ f all m is events frame past.
    let old : List ℕ = c.args.text.now.items in
    let chosen : all.style.side_band ≡ true = sym (ap (λ (s : Style). s.side_band) events.style) ∙ c.if-events.true in
    on_ok_weaker c.push_record.result (λ e. e ∙ ap (λ b. old ++ text_if b (side_at f all m)) (sym chosen)) (c.push_record.ensures f all m is events frame past)
