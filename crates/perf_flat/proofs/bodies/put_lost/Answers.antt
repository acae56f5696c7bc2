use Rattle.std.proofs.Common.{refl}
use Rattle.perf_base.specs.Layout.{map_parts}
use Rattle.perf_flat.proofs.RecordWrites.{next_number}
use Rattle.perf_flat.proofs.CursorRuns.{all_read}
use Rattle.perf_flat.proofs.Spans.{no_strings}
use Rattle.perf_records.specs.Records.{lost_is}
use Rattle.perf_types.specs.Numbers.{lost}
use Rattle.perf_flat.proofs.bodies.put_lost.Goals as goal

pub returns : goal.returns
returns g c = λ settings.
    let start = c.new-cursor in
    let id_at = c.read_u64-id in
    let lost_at = c.read_u64-lost in
    c.finish.ensures settings (g.E.Endian.order c.args.order.now) (map_parts lost_is lost) (lost_is (record { id = id_at.result; lost = lost_at.result })) c.args.body.now (record {
      start = start.result;
      whole = start.ensures.bytes;
      front = start.ensures.at;
      fresh = start.ensures.refusal;
      reads = next_number id_at.ensures (next_number lost_at.ensures all_read);
      words = λ ok. refl;
      there = λ ok frame is. no_strings frame;
      ids = λ own. refl;
    })
