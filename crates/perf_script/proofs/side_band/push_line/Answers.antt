use Rattle.std.proofs.Common.{codes}
use Rattle.std.proofs.lemmas.Result.{on_ok_weaker}
use Rattle.perf_base.specs.Dynamic.{order_of}
use Rattle.perf_script.specs.FlatLines.{record_in}
use Rattle.perf_script.specs.Heads.{head_columns}
use Rattle.perf_columns.proofs.Appended.{three}
use Rattle.perf_script.proofs.side_band.push_line.Goals as goal

pub returns : goal.returns
returns c = λ changes history.
    on_ok_weaker c.push_record_in.result
    (λ e. three c.args.text.now.items (head_columns changes c.args.head.now) (codes "PERF_RECORD_") (record_in (order_of c.args.order) c.args.bytes.now c.args.frame.now) _ _ _
    (c.in_ok-push_head.ensures changes history) c.in_ok-extend_from_slice.ensures.items e) c.push_record_in.ensures
