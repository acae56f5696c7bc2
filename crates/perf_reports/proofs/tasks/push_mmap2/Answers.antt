use Rattle.std.proofs.Common.{◌≡◌, ◌++◌, List, ℕ, codes, string_bytes}
use Rattle.perf_reports.specs.TaskLines.{place_words, file, protection, escape_name, mmap2_line}
use Rattle.perf_records.specs.Records.{mmap2_value}
use Rattle.perf_reports.proofs.Appended.{appended, mapped}
use Rattle.perf_reports.proofs.tasks.push_mmap2.Goals as goal

pub returns : goal.returns
returns c =
    let r = mmap2_value c.args.map.now in
    let old : List ℕ = string_bytes c.args.text.now in
    let e : string_bytes c.push_protection.new.text ++ escape_name c.as_slice.result.now ≡ old ++ mmap2_line r =
    rw (← c.as_slice.ensures, c.in_ok-push_protection.ensures, c.in_ok-push_file.ensures, c.in_ok-push_str.ensures.bytes, c.text.ensures, c.put_head.ensures.text, c.put_place.ensures.text, c.put.ensures.text, c.new-strip.ensures.text)
    (mapped old (codes "mmap2") r.pid r.tid (place_words r.addr r.len r.pgoff) (file r.detail) (protection r.prot r.flags) (escape_name c.as_slice.result.now)) in
    appended c.push_name.result _ _ _ e c.push_name.ensures
