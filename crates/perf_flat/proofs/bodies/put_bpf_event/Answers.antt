use Rattle.std.proofs.Common.{refl, subst}
use Rattle.perf_base.specs.FieldWords.{bytes}
use Rattle.perf_base.specs.Layout.{done, map_parts}
use Rattle.perf_flat.proofs.Fields.{passed_bytes}
use Rattle.perf_flat.proofs.RecordWrites.{next_number}
use Rattle.perf_flat.proofs.CursorRuns.{Passed, then_reads, all_read}
use Rattle.perf_flat.proofs.Spans.{one_string}
use Rattle.perf_flat.specs.CursorReads.{IsBodyOf}
use Rattle.perf_records.specs.Records.{bpf_event_is}
use Rattle.perf_types.specs.Numbers.{bpf_event}
use Rattle.perf_flat.proofs.bodies.put_bpf_event.Goals as goal

pub returns : goal.returns
returns g c = λ settings.
    let order = g.E.Endian.order c.args.order.now in
    let start = c.new-cursor in
    let ty_at = c.read_u16_as_u64-kind in
    let flags_at = c.read_u16_as_u64-flags in
    let id_at = c.read_u32_as_u64-id in
    let a = id_at.new.self in
    let passed : Passed 8 a c.pass-tag.result c.pass-tag.new.self = record { bytes = c.pass-tag.ensures.bytes; short = c.pass-tag.ensures.short; fits = c.pass-tag.ensures.fits } in
    let last = passed_bytes order 8 a c.pass-tag.new.self c.pass-tag.result a.within passed in
    c.finish.ensures settings order (map_parts bpf_event_is bpf_event) (bpf_event_is (record { ty = ty_at.result; flags = flags_at.result; id = id_at.result; tag = last.contents })) c.args.body.now (record {
      start = start.result;
      whole = start.ensures.bytes;
      front = start.ensures.at;
      fresh = start.ensures.refusal;
      reads = next_number ty_at.ensures.reads (next_number flags_at.ensures.reads (next_number id_at.ensures
          (then_reads (bytes 8) (λ x. done (bpf_event_is (record { ty = ty_at.result; flags = flags_at.result; id = id_at.result; tag = x }))) last.reads all_read)));
      words = λ ok. refl;
      there = λ ok frame is. one_string frame c.pass-tag.result last.contents (last.there ok frame (subst (IsBodyOf frame) last.reads.bytes is));
      ids = λ own. refl;
    })
