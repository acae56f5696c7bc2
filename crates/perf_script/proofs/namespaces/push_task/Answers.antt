use Rattle.std.proofs.Common.{ℕ, ◌++◌, codes, decimal, ◌∙◌, ap}
use Rattle.perf_script.specs.NamespaceText.{task_text}
use Rattle.perf_columns.specs.RecordText.{pair}
use Rattle.perf_columns.proofs.Appended.{appended}
use Rattle.perf_script.proofs.namespaces.push_task.Goals as goal

pub returns : goal.returns
returns c =
    let pid : ℕ = c.args.pid in
    let tid : ℕ = c.args.tid in
    let count : ℕ = c.args.count in
    let list = c.put.ensures.text ∙ ap (λ t. codes "\n\t\t[" ++ t) c.new-strip.ensures.text in
    let many = c.put-2.ensures.text ∙ ap (λ t. codes " - nr_namespaces: " ++ t) (c.put_number.ensures.text ∙ ap (λ t. decimal count ++ t) list) in
    let task = c.put-3.ensures.text ∙ ap (λ t. codes "NAMESPACES " ++ t) (c.put_pair.ensures.text ∙ ap (λ t. pair (codes "/") pid tid ++ t) many) in
    appended c.extend_from_slice.result c.args.text.now.items c.extend_from_slice.new.self.items c.as_bytes.result.now (task_text pid tid count) c.extend_from_slice.ensures.items (c.as_bytes.ensures.value ∙ c.text.ensures ∙ task)
