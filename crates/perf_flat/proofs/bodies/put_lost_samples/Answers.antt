use Rattle.std.proofs.Common.{refl}
use Rattle.perf_base.specs.Layout.{map_parts}
use Rattle.perf_flat.proofs.RecordWrites.{next_number}
use Rattle.perf_flat.proofs.CursorRuns.{all_read}
use Rattle.perf_flat.proofs.Spans.{no_strings}
use Rattle.perf_records.specs.Records.{lost_samples_is}
use Rattle.perf_types.specs.Numbers.{lost_samples}
use Rattle.perf_flat.proofs.bodies.put_lost_samples.Goals as goal

pub returns : goal.returns
returns g c = λ settings.
    let start = c.new-cursor in
    let lost_at = c.read_u64-lost in
    c.finish.ensures settings (g.E.Endian.order c.args.order.now) (map_parts lost_samples_is lost_samples) (lost_samples_is (record { lost = lost_at.result })) c.args.body.now (record {
      start = start.result;
      whole = start.ensures.bytes;
      front = start.ensures.at;
      fresh = start.ensures.refusal;
      reads = next_number lost_at.ensures all_read;
      words = λ ok. refl;
      there = λ ok frame is. no_strings frame;
      ids = λ own. refl;
    })
