use Rattle.std.proofs.Common.{◌*◌, arith, refl}
use Rattle.perf_words.specs.SetBits.{sample_flags_bits}
use Rattle.perf_sample_types.specs.SampleId.{sample_id_flags, sample_id_fields}
use Rattle.perf_sample_types.proofs.Flags.{contains_tid, contains_time, contains_id, contains_stream_id, contains_cpu, contains_identifier}
use Rattle.perf_records.proofs.FrameEnds.{taken_if, lacks_if, lacks_before, id_taken, ends_short}
use Rattle.perf_records.proofs.frame_end.last_fields.Goals as goal

pub returns : goal.returns
returns g c =
    let t = sample_flags_bits c.args.flags in
    id_taken (g.E.Endian.order c.args.order.now) t _
    (taken_if c.in_ok-identifier.ensures (c.contains.ensures tt) (contains_identifier t))
    (taken_if c.in_ok-cpu.ensures (c.contains-2.ensures tt) (contains_cpu t))
    (taken_if c.in_ok-stream_id.ensures (c.contains-3.ensures tt) (contains_stream_id t))
    (taken_if c.in_ok-id.ensures (c.contains-4.ensures tt) (contains_id t))
    (taken_if c.in_ok-time.ensures (c.contains-5.ensures tt) (contains_time t))
    (taken_if c.in_ok-task.ensures (c.contains-6.ensures tt) (contains_tid t))
    c.from_parts-made.ensures c.first_number.ensures c.second_number.ensures c.number.ensures c.number-2.ensures c.or.ensures c.number-3.ensures c.first_number-2.ensures
    refl c.field_reads.ensures

pub returns-in_err-identifier : goal.returns-in_err-identifier
returns-in_err-identifier g c =
    let t = sample_flags_bits c.args.flags in
    let short =
    lacks_if _ c.in_err-identifier.ensures (c.contains.ensures tt) (contains_identifier t) in
    ends_short (g.E.Endian.order c.args.order.now) (8 * sample_id_flags t) (sample_id_fields t) c.args.bytes.now c.from_residual.ensures (omega (arith, short))

pub returns-in_err-cpu : goal.returns-in_err-cpu
returns-in_err-cpu g c =
    let t = sample_flags_bits c.args.flags in
    let short =
    lacks_before _ c.in_ok-identifier.ensures (c.contains.ensures tt) (contains_identifier t)
    (lacks_if _ c.in_err-cpu.ensures (c.contains-2.ensures tt) (contains_cpu t)) in
    ends_short (g.E.Endian.order c.args.order.now) (8 * sample_id_flags t) (sample_id_fields t) c.args.bytes.now c.from_residual-in_err-cpu.ensures (omega (arith, short))

pub returns-in_err-stream_id : goal.returns-in_err-stream_id
returns-in_err-stream_id g c =
    let t = sample_flags_bits c.args.flags in
    let short =
    lacks_before _ c.in_ok-identifier.ensures (c.contains.ensures tt) (contains_identifier t)
    (lacks_before _ c.in_ok-cpu.ensures (c.contains-2.ensures tt) (contains_cpu t)
    (lacks_if _ c.in_err-stream_id.ensures (c.contains-3.ensures tt) (contains_stream_id t))) in
    ends_short (g.E.Endian.order c.args.order.now) (8 * sample_id_flags t) (sample_id_fields t) c.args.bytes.now c.from_residual-in_err-stream_id.ensures (omega (arith, short))

pub returns-in_err-id : goal.returns-in_err-id
returns-in_err-id g c =
    let t = sample_flags_bits c.args.flags in
    let short =
    lacks_before _ c.in_ok-identifier.ensures (c.contains.ensures tt) (contains_identifier t)
    (lacks_before _ c.in_ok-cpu.ensures (c.contains-2.ensures tt) (contains_cpu t)
    (lacks_before _ c.in_ok-stream_id.ensures (c.contains-3.ensures tt) (contains_stream_id t)
    (lacks_if _ c.in_err-id.ensures (c.contains-4.ensures tt) (contains_id t)))) in
    ends_short (g.E.Endian.order c.args.order.now) (8 * sample_id_flags t) (sample_id_fields t) c.args.bytes.now c.from_residual-in_err-id.ensures (omega (arith, short))

pub returns-in_err-time : goal.returns-in_err-time
returns-in_err-time g c =
    let t = sample_flags_bits c.args.flags in
    let short =
    lacks_before _ c.in_ok-identifier.ensures (c.contains.ensures tt) (contains_identifier t)
    (lacks_before _ c.in_ok-cpu.ensures (c.contains-2.ensures tt) (contains_cpu t)
    (lacks_before _ c.in_ok-stream_id.ensures (c.contains-3.ensures tt) (contains_stream_id t)
    (lacks_before _ c.in_ok-id.ensures (c.contains-4.ensures tt) (contains_id t)
    (lacks_if _ c.in_err-time.ensures (c.contains-5.ensures tt) (contains_time t))))) in
    ends_short (g.E.Endian.order c.args.order.now) (8 * sample_id_flags t) (sample_id_fields t) c.args.bytes.now c.from_residual-in_err-time.ensures (omega (arith, short))

pub returns-in_err-task : goal.returns-in_err-task
returns-in_err-task g c =
    let t = sample_flags_bits c.args.flags in
    let short =
    lacks_before _ c.in_ok-identifier.ensures (c.contains.ensures tt) (contains_identifier t)
    (lacks_before _ c.in_ok-cpu.ensures (c.contains-2.ensures tt) (contains_cpu t)
    (lacks_before _ c.in_ok-stream_id.ensures (c.contains-3.ensures tt) (contains_stream_id t)
    (lacks_before _ c.in_ok-id.ensures (c.contains-4.ensures tt) (contains_id t)
    (lacks_before _ c.in_ok-time.ensures (c.contains-5.ensures tt) (contains_time t)
    (lacks_if _ c.in_err-task.ensures (c.contains-6.ensures tt) (contains_tid t)))))) in
    ends_short (g.E.Endian.order c.args.order.now) (8 * sample_id_flags t) (sample_id_fields t) c.args.bytes.now c.from_residual-in_err-task.ensures (omega (arith, short))
