use Rattle.std.proofs.Common.{refl, subst}
use Rattle.perf_base.specs.FieldWords.{name}
use Rattle.perf_base.specs.Layout.{done, map_parts}
use Rattle.perf_flat.proofs.RecordWrites.{next_number}
use Rattle.perf_flat.proofs.CursorRuns.{then_reads, all_read}
use Rattle.perf_flat.proofs.Spans.{one_string}
use Rattle.perf_flat.specs.CursorReads.{IsBodyOf}
use Rattle.perf_records.specs.Records.{comm_is}
use Rattle.perf_types.specs.Comm.{comm}
use Rattle.perf_flat.proofs.bodies.put_comm.Goals as goal

pub returns : goal.returns
returns g c = λ settings.
    let order = g.E.Endian.order c.args.order.now in
    let start = c.new-cursor in
    let pid_at = c.read_u32_as_u64-pid in
    let tid_at = c.read_u32_as_u64-tid in
    let last = c.name-comm.ensures order in
    c.finish.ensures settings order (map_parts comm_is comm) (comm_is (record { pid = pid_at.result; tid = tid_at.result; comm = last.value })) c.args.body.now (record {
      start = start.result;
      whole = start.ensures.bytes;
      front = start.ensures.at;
      fresh = start.ensures.refusal;
      reads = next_number pid_at.ensures (next_number tid_at.ensures (then_reads name (λ x. done (comm_is (record { pid = pid_at.result; tid = tid_at.result; comm = x }))) last.reads all_read));
      words = λ ok. refl;
      there = λ ok frame is. one_string frame c.name-comm.result last.value (last.holds ok frame (subst (IsBodyOf frame) last.reads.bytes is));
      ids = λ own. refl;
    })
