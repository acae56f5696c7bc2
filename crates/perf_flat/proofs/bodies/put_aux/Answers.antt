use Rattle.std.proofs.Common.{refl}
use Rattle.perf_base.specs.Layout.{map_parts}
use Rattle.perf_flat.proofs.RecordWrites.{next_number}
use Rattle.perf_flat.proofs.CursorRuns.{all_read}
use Rattle.perf_flat.proofs.Spans.{no_strings}
use Rattle.perf_records.specs.Records.{aux_is}
use Rattle.perf_types.specs.Numbers.{aux}
use Rattle.perf_flat.proofs.bodies.put_aux.Goals as goal

pub returns : goal.returns
returns g c = λ settings.
    let start = c.new-cursor in
    let aux_offset_at = c.read_u64-offset in
    let aux_size_at = c.read_u64-size in
    let flags_at = c.read_u64-flags in
    c.finish.ensures settings (g.E.Endian.order c.args.order.now) (map_parts aux_is aux) (aux_is (record { aux_offset = aux_offset_at.result; aux_size = aux_size_at.result; flags = flags_at.result })) c.args.body.now (record {
      start = start.result;
      whole = start.ensures.bytes;
      front = start.ensures.at;
      fresh = start.ensures.refusal;
      reads = next_number aux_offset_at.ensures (next_number aux_size_at.ensures (next_number flags_at.ensures all_read));
      words = λ ok. refl;
      there = λ ok frame is. no_strings frame;
      ids = λ own. refl;
    })
