use Rattle.std.proofs.Common.{refl}
use Rattle.perf_base.specs.Layout.{map_parts}
use Rattle.perf_flat.proofs.RecordWrites.{next_number}
use Rattle.perf_flat.proofs.CursorRuns.{all_read}
use Rattle.perf_flat.proofs.Spans.{no_strings}
use Rattle.perf_records.specs.Records.{itrace_start_is}
use Rattle.perf_types.specs.Numbers.{itrace_start}
use Rattle.perf_flat.proofs.bodies.put_itrace_start.Goals as goal

pub returns : goal.returns
returns g c = λ settings.
    let start = c.new-cursor in
    let pid_at = c.read_u32_as_u64-pid in
    let tid_at = c.read_u32_as_u64-tid in
    c.finish.ensures settings (g.E.Endian.order c.args.order.now) (map_parts itrace_start_is itrace_start) (itrace_start_is (record { pid = pid_at.result; tid = tid_at.result })) c.args.body.now (record {
      start = start.result;
      whole = start.ensures.bytes;
      front = start.ensures.at;
      fresh = start.ensures.refusal;
      reads = next_number pid_at.ensures (next_number tid_at.ensures all_read);
      words = λ ok. refl;
      there = λ ok frame is. no_strings frame;
      ids = λ own. refl;
    })
