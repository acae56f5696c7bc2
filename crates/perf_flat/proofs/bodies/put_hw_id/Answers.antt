use Rattle.std.proofs.Common.{refl}
use Rattle.perf_base.specs.Layout.{map_parts}
use Rattle.perf_flat.proofs.RecordWrites.{next_number}
use Rattle.perf_flat.proofs.CursorRuns.{all_read}
use Rattle.perf_flat.proofs.Spans.{no_strings}
use Rattle.perf_records.specs.Records.{aux_output_hw_id_is}
use Rattle.perf_types.specs.Numbers.{aux_output_hw_id}
use Rattle.perf_flat.proofs.bodies.put_hw_id.Goals as goal

pub returns : goal.returns
returns g c = λ settings.
    let start = c.new-cursor in
    let hw_id_at = c.read_u64-hw_id in
    c.finish.ensures settings (g.E.Endian.order c.args.order.now) (map_parts aux_output_hw_id_is aux_output_hw_id) (aux_output_hw_id_is (record { hw_id = hw_id_at.result })) c.args.body.now (record {
      start = start.result;
      whole = start.ensures.bytes;
      front = start.ensures.at;
      fresh = start.ensures.refusal;
      reads = next_number hw_id_at.ensures all_read;
      words = λ ok. refl;
      there = λ ok frame is. no_strings frame;
      ids = λ own. refl;
    })
