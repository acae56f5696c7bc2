use Rattle.std.proofs.Common.{◌≡◌, ◌++◌, List, ℕ, [], codes, ap, append_assoc, string_bytes}
use Rattle.std.specs.List.{join_by}
use Rattle.perf_reports.specs.TaskLines.{namespace, namespaces_line}
use Rattle.perf_records.specs.Records.{namespaces_value}
use Rattle.perf_reports.proofs.Appended.{appended, said}
use Rattle.perf_reports.proofs.tasks.push_namespaces.Goals as goal

pub returns : goal.returns
returns c =
    let r = namespaces_value c.args.namespaces.now in
    let old : List ℕ = string_bytes c.args.text.now in
    let listed : List ℕ = join_by namespace (codes ",") c.as_slice.result.now in
    let e : string_bytes c.push_str.new.self ++ listed ≡ old ++ namespaces_line r = rw (← c.as_slice.ensures, c.in_ok-push_str.ensures.bytes, c.text.ensures, c.put_head.ensures.text, c.new-strip.ensures.text, append_assoc) (ap (λ xs. old ++ xs) (said (codes "namespaces") r.pid r.tid [] listed)) in
    appended c.push_namespace_list.result _ _ _ e c.push_namespace_list.ensures
