use Rattle.std.proofs.Common.{◌++◌, codes}
use Rattle.std.proofs.lemmas.Result.{on_ok_weaker}
use Rattle.perf_script.specs.FlatLines.{identity_by, range_by, rights_by, string_at}
use Rattle.perf_columns.specs.RecordText.{use_text}
use Rattle.perf_columns.proofs.Appended.{three}
use Rattle.perf_script.proofs.side_band.push_mmap2_in.Goals as goal

pub returns : goal.returns
returns c =
    let bytes = c.args.bytes.now in
    let frame = c.args.frame.now in
    on_ok_weaker c.push_use_in.result
    (λ e. three c.args.text.now.items (codes "MMAP2") (range_by frame.numbers ++ identity_by frame.misc frame.numbers (string_at bytes frame 1)) (use_text (rights_by frame.numbers) (string_at bytes frame 0)) _ _ _
    c.in_ok-extend_from_slice.ensures.items c.in_ok-push_mapped_in.ensures e) c.push_use_in.ensures
