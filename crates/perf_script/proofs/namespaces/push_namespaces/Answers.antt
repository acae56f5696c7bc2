use Rattle.std.proofs.Common.{ℕ, List, ◌++◌, ◌/◌, length, sym, ◌∙◌, ap}
use Rattle.std.proofs.lemmas.Result.{on_ok_weaker}
use Rattle.perf_base.specs.Dynamic.{order_of}
use Rattle.perf_base.specs.Order.{Order}
use Rattle.perf_script.specs.FlatLines.{namespaces_in}
use Rattle.perf_script.specs.NamespaceText.{list_end, namespaces_from, task_text}
use Rattle.perf_columns.proofs.Appended.{appended, three}
use Rattle.perf_script.proofs.NamespaceLists.{namespaces_count}
use Rattle.perf_script.proofs.namespaces.push_namespaces.Goals as goal

pub returns : goal.returns
returns c =
    let o : Order = order_of c.args.order in
    let bytes : List ℕ = c.args.bytes.now in
    let old : List ℕ = c.args.text.now.items in
    let n : ℕ = length bytes / 16 in
    let pid : ℕ = c.args.pid in
    let tid : ℕ = c.args.tid in
    let list : List ℕ = namespaces_from 0 (namespaces_in o bytes) in
    on_ok_weaker c.extend_from_slice.result (λ e.
    three old (task_text pid tid n) list (list_end n) _ _ _ c.in_ok-push_task.ensures c.in_ok-push_list.ensures e
    ∙ ap (λ k. old ++ (task_text pid tid k ++ (list ++ list_end k))) (sym (namespaces_count o n bytes)))
    (appended c.extend_from_slice.result c.push_list.new.text.items c.extend_from_slice.new.self.items c.list_end.result.now (list_end n) c.extend_from_slice.ensures.items c.list_end.ensures)
