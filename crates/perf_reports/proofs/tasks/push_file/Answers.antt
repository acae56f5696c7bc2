use Rattle.std.proofs.Common.{◌≡◌, ◌∙◌, append-nil}
use Rattle.perf_types.specs.MmapDetail.{detail_value}
use Rattle.perf_reports.specs.TaskLines.{inode_words}
use Rattle.perf_reports.proofs.Appended.{pushed}
use Rattle.perf_reports.proofs.Inode.{file-of_parts}
use Rattle.perf_reports.proofs.tasks.push_file.Goals as goal

pub returns-in-Some-Some-Some-Some : goal.returns-in-Some-Some-Some-Some
returns-in-Some-Some-Some-Some c =
    let x = c.in-Some-Some-Some-Some in
    let written : c.text.result.now ≡ inode_words x.maj x.min x.ino x.generation = c.text.ensures ∙ c.put_inode.ensures.text ∙ rw c.clear.ensures.text (append-nil (inode_words x.maj x.min x.ino x.generation)) in
    rw (file-of_parts (detail_value c.args.map.now.detail) _ _ _ _ x.ensures x.ensures' x.ensures'' x.ensures''')
    (pushed c.push_str.result _ _ _ _ written c.push_str.ensures.bytes)
