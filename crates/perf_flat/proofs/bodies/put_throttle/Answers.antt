use Rattle.std.proofs.Common.{refl}
use Rattle.perf_base.specs.Layout.{map_parts}
use Rattle.perf_flat.proofs.RecordWrites.{next_number}
use Rattle.perf_flat.proofs.CursorRuns.{all_read}
use Rattle.perf_flat.proofs.Spans.{no_strings}
use Rattle.perf_records.specs.Records.{throttle_is, unthrottle_is}
use Rattle.perf_types.specs.Numbers.{throttle}
use Rattle.perf_flat.proofs.bodies.put_throttle.Goals as goal

pub returns-clause-throttle : goal.returns-clause-throttle
returns-clause-throttle g c = λ settings.
    let start = c.new-cursor in
    let time_at = c.read_u64-time in
    let id_at = c.read_u64-id in
    let stream_id_at = c.read_u64-stream_id in
    c.finish.ensures settings (g.E.Endian.order c.args.order.now) (map_parts throttle_is throttle) (throttle_is (record { time = time_at.result; id = id_at.result; stream_id = stream_id_at.result })) c.args.body.now (record {
      start = start.result;
      whole = start.ensures.bytes;
      front = start.ensures.at;
      fresh = start.ensures.refusal;
      reads = next_number time_at.ensures (next_number id_at.ensures (next_number stream_id_at.ensures all_read));
      words = λ ok. refl;
      there = λ ok frame is. no_strings frame;
      ids = λ own. refl;
    })

pub returns-clause-unthrottle : goal.returns-clause-unthrottle
returns-clause-unthrottle g c = λ settings.
    let start = c.new-cursor in
    let time_at = c.read_u64-time in
    let id_at = c.read_u64-id in
    let stream_id_at = c.read_u64-stream_id in
    c.finish.ensures settings (g.E.Endian.order c.args.order.now) (map_parts unthrottle_is throttle) (unthrottle_is (record { time = time_at.result; id = id_at.result; stream_id = stream_id_at.result })) c.args.body.now (record {
      start = start.result;
      whole = start.ensures.bytes;
      front = start.ensures.at;
      fresh = start.ensures.refusal;
      reads = next_number time_at.ensures (next_number id_at.ensures (next_number stream_id_at.ensures all_read));
      words = λ ok. refl;
      there = λ ok frame is. no_strings frame;
      ids = λ own. refl;
    })
