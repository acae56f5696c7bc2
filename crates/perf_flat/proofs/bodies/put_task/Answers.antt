use Rattle.std.proofs.Common.{refl}
use Rattle.perf_base.specs.Layout.{map_parts}
use Rattle.perf_flat.proofs.RecordWrites.{next_number}
use Rattle.perf_flat.proofs.CursorRuns.{all_read}
use Rattle.perf_flat.proofs.Spans.{no_strings}
use Rattle.perf_records.specs.Records.{exit_is, fork_is}
use Rattle.perf_types.specs.Numbers.{exit}
use Rattle.perf_flat.proofs.bodies.put_task.Goals as goal

pub returns-clause-exit : goal.returns-clause-exit
returns-clause-exit g c = λ settings.
    let start = c.new-cursor in
    let pid_at = c.read_u32_as_u64-pid in
    let ppid_at = c.read_u32_as_u64-ppid in
    let tid_at = c.read_u32_as_u64-tid in
    let ptid_at = c.read_u32_as_u64-ptid in
    let time_at = c.read_u64-time in
    c.finish.ensures settings (g.E.Endian.order c.args.order.now) (map_parts exit_is exit) (exit_is (record { pid = pid_at.result; ppid = ppid_at.result; tid = tid_at.result; ptid = ptid_at.result; time = time_at.result })) c.args.body.now (record {
      start = start.result;
      whole = start.ensures.bytes;
      front = start.ensures.at;
      fresh = start.ensures.refusal;
      reads = next_number pid_at.ensures (next_number ppid_at.ensures (next_number tid_at.ensures (next_number ptid_at.ensures (next_number time_at.ensures all_read))));
      words = λ ok. refl;
      there = λ ok frame is. no_strings frame;
      ids = λ own. refl;
    })

pub returns-clause-fork : goal.returns-clause-fork
returns-clause-fork g c = λ settings.
    let start = c.new-cursor in
    let pid_at = c.read_u32_as_u64-pid in
    let ppid_at = c.read_u32_as_u64-ppid in
    let tid_at = c.read_u32_as_u64-tid in
    let ptid_at = c.read_u32_as_u64-ptid in
    let time_at = c.read_u64-time in
    c.finish.ensures settings (g.E.Endian.order c.args.order.now) (map_parts fork_is exit) (fork_is (record { pid = pid_at.result; ppid = ppid_at.result; tid = tid_at.result; ptid = ptid_at.result; time = time_at.result })) c.args.body.now (record {
      start = start.result;
      whole = start.ensures.bytes;
      front = start.ensures.at;
      fresh = start.ensures.refusal;
      reads = next_number pid_at.ensures (next_number ppid_at.ensures (next_number tid_at.ensures (next_number ptid_at.ensures (next_number time_at.ensures all_read))));
      words = λ ok. refl;
      there = λ ok frame is. no_strings frame;
      ids = λ own. refl;
    })
