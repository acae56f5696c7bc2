use Rattle.std.proofs.Common.{◌≡◌, ◌++◌, ◌∙◌, ℕ, List, [], ap, sym, subst, string_bytes, unwrap_or}
use Rattle.perf_records.specs.Records.{record_value}
use Rattle.perf_reports.specs.TaskLines.{HasNoControl, task_line_of}
use Rattle.perf_reports.proofs.ControlLines.{line_has_no_control}
use Rattle.perf_reports.proofs.tasks.line_of.Goals as goal

pub returns-then-branch-clause-no_control : goal.returns-then-branch-clause-no_control
returns-then-branch-clause-no_control c =
    let line : List ℕ = unwrap_or (task_line_of (record_value c.args.found.now)) [] in
    let made : string_bytes c.push_line.new.text ≡ line = c.in_ok-push_line.ensures.line ∙ ap (λ xs. xs ++ line) c.new-line.ensures.bytes in
    subst HasNoControl (sym made) (line_has_no_control (record_value c.args.found.now))
