use Rattle.std.proofs.Common.{ℕ, List, refl, subst, ◌∙◌}
use Rattle.perf_base.specs.FieldWords.{u32, name}
use Rattle.perf_base.specs.Layout.{Parts, done, map_parts, ◌>>=◌}
use Rattle.perf_types.specs.Mmap2.{Mmap2Value, mmap2}
use Rattle.perf_types.specs.MmapDetail.{DetailValue, mmap_detail}
use Rattle.perf_records.specs.Records.{mmap2_is}
use Rattle.perf_flat.specs.CursorReads.{IsBodyOf}
use Rattle.perf_flat.proofs.RecordWrites.{next_number, detail_words}
use Rattle.perf_flat.proofs.CursorRuns.{then_reads, all_read, still_fresh}
use Rattle.perf_flat.proofs.Spans.{path_and_id}
use Rattle.perf_flat.proofs.bodies.put_mmap2.Goals as goal

pub returns : goal.returns
returns g c = λ settings asked.
    let order = g.E.Endian.order c.args.order.now in
    let start = c.new-cursor in
    let pid_at = c.read_u32_as_u64-pid in
    let tid_at = c.read_u32_as_u64-tid in
    let addr_at = c.read_u64-addr in
    let len_at = c.read_u64-len in
    let pgoff_at = c.read_u64-pgoff in
    let detail = c.detail-detail.ensures settings asked in
    let prot_at = c.read_u32_as_u64-prot in
    let flags_at = c.read_u32_as_u64-flags in
    let last = c.name-filename.ensures order in
    let made : DetailValue → ℕ → ℕ → List ℕ → Mmap2Value = λ d prot flags path. record { pid = pid_at.result; tid = tid_at.result; addr = addr_at.result; len = len_at.result; pgoff = pgoff_at.result; detail = d; prot = prot; flags = flags; filename = path } in
    let value : Mmap2Value = made detail.value prot_at.result flags_at.result last.value in
    let after : DetailValue → Parts Mmap2Value = λ d. u32 >>= λ prot. (u32 >>= λ flags. (name >>= λ path. done (made d prot flags path))) in
    let all = next_number pid_at.ensures (next_number tid_at.ensures (next_number addr_at.ensures (next_number len_at.ensures (next_number pgoff_at.ensures
    (then_reads (mmap_detail settings) after detail.reads (next_number prot_at.ensures (next_number flags_at.ensures
    (then_reads name (λ path. done (made detail.value prot_at.result flags_at.result path)) last.reads all_read)))))))) in
    c.finish.ensures settings order (map_parts mmap2_is (mmap2 settings)) (mmap2_is value) c.args.body.now (record {
      start = start.result;
      whole = start.ensures.bytes;
      front = start.ensures.at;
      fresh = start.ensures.refusal;
      reads = then_reads (mmap2 settings) (λ v. done (mmap2_is v)) all all_read;
      words = λ ok. detail_words (detail.holds (still_fresh prot_at.ensures (still_fresh flags_at.ensures (still_fresh last.reads ok))));
      there = λ ok frame is.
          let holds = detail.holds (still_fresh prot_at.ensures (still_fresh flags_at.ensures (still_fresh last.reads ok))) in
          let front = last.reads.bytes ∙ flags_at.ensures.bytes ∙ prot_at.ensures.bytes ∙ detail.reads.bytes in
          path_and_id frame c.name-filename.result _ last.value _ (last.holds ok frame (subst (IsBodyOf frame) last.reads.bytes is)) (holds.build_id frame (subst (IsBodyOf frame) front is));
      ids = λ own. refl;
    })
