use Rattle.std.proofs.Common.{refl}
use Rattle.perf_base.specs.Layout.{done, map_parts}
use Rattle.perf_flat.proofs.RecordWrites.{next_number}
use Rattle.perf_flat.proofs.CursorRuns.{then_reads, all_read}
use Rattle.perf_flat.proofs.Spans.{no_strings}
use Rattle.perf_flat.specs.BodyReads.{counter_read}
use Rattle.perf_records.specs.Records.{read_is}
use Rattle.perf_types.specs.Read.{read}
use Rattle.perf_counters.specs.ReadValue.{read_value}
use Rattle.perf_flat.proofs.bodies.put_read.Goals as goal

pub returns : goal.returns
returns g c = λ settings asked.
    let start = c.new-cursor in
    let pid_at = c.read_u32_as_u64-pid in
    let tid_at = c.read_u32_as_u64-tid in
    let one = c.one_counter-one in
    let reads = one.ensures.reads settings asked in
    c.finish.ensures settings (g.E.Endian.order c.args.order.now) (map_parts read_is (read settings)) (read_is (record { pid = pid_at.result; tid = tid_at.result; values = counter_read one.result })) c.args.body.now (record {
      start = start.result;
      whole = start.ensures.bytes;
      front = start.ensures.at;
      fresh = start.ensures.refusal;
      reads = next_number pid_at.ensures (next_number tid_at.ensures
          (then_reads (read_value settings) (λ values. done (read_is (record { pid = pid_at.result; tid = tid_at.result; values = values }))) reads all_read));
      words = λ ok. c.read_numbers.ensures;
      there = λ ok frame is. no_strings frame;
      ids = λ own. refl;
    })
