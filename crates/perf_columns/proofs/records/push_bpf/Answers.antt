use Rattle.std.proofs.Common.{codes, decimal}
use Rattle.std.proofs.lemmas.Result.{on_ok_weaker}
use Rattle.perf_columns.specs.RecordText.{program_text}
use Rattle.perf_columns.proofs.Appended.{three}
use Rattle.perf_columns.proofs.records.push_bpf.Goals as goal

pub returns : goal.returns
returns c =
    on_ok_weaker c.push_program.result (λ e. three c.args.text.now.items (codes "BPF_EVENT type ") (decimal c.args.ty) (program_text c.args.flags c.args.id) _ _ _
    c.in_ok-extend_from_slice.ensures.items c.in_ok-push_decimal.ensures e) c.push_program.ensures
