use Rattle.std.proofs.Common.{codes, decimal}
use Rattle.std.proofs.lemmas.Result.{on_ok_weaker}
use Rattle.perf_columns.specs.RecordText.{path_text}
use Rattle.perf_columns.proofs.Appended.{three}
use Rattle.perf_columns.proofs.records.push_cgroup.Goals as goal

pub returns : goal.returns
returns c =
    on_ok_weaker c.push_path.result (λ e. three c.args.text.now.items (codes "CGROUP cgroup: ") (decimal c.args.id) (path_text c.args.path.now) _ _ _
    c.in_ok-extend_from_slice.ensures.items c.in_ok-push_decimal.ensures e) c.push_path.ensures
