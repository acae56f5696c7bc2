use Rattle.std.proofs.Common.{refl, subst}
use Rattle.perf_base.specs.FieldWords.{name}
use Rattle.perf_base.specs.Layout.{done, map_parts}
use Rattle.perf_flat.proofs.RecordWrites.{next_number}
use Rattle.perf_flat.proofs.CursorRuns.{then_reads, all_read}
use Rattle.perf_flat.proofs.Spans.{one_string}
use Rattle.perf_flat.specs.CursorReads.{IsBodyOf}
use Rattle.perf_records.specs.Records.{ksymbol_is}
use Rattle.perf_types.specs.KSymbol.{ksymbol}
use Rattle.perf_flat.proofs.bodies.put_ksymbol.Goals as goal

pub returns : goal.returns
returns g c = λ settings.
    let order = g.E.Endian.order c.args.order.now in
    let start = c.new-cursor in
    let addr_at = c.read_u64-addr in
    let len_at = c.read_u32_as_u64-len in
    let ksym_type_at = c.read_u16_as_u64-kind in
    let flags_at = c.read_u16_as_u64-flags in
    let last = c.name-name.ensures order in
    c.finish.ensures settings order (map_parts ksymbol_is ksymbol) (ksymbol_is (record { addr = addr_at.result; len = len_at.result; ksym_type = ksym_type_at.result; flags = flags_at.result; name = last.value })) c.args.body.now (record {
      start = start.result;
      whole = start.ensures.bytes;
      front = start.ensures.at;
      fresh = start.ensures.refusal;
      reads = next_number addr_at.ensures (next_number len_at.ensures (next_number ksym_type_at.ensures.reads (next_number flags_at.ensures.reads (then_reads name (λ x. done (ksymbol_is (record { addr = addr_at.result; len = len_at.result; ksym_type = ksym_type_at.result; flags = flags_at.result; name = x }))) last.reads all_read))));
      words = λ ok. refl;
      there = λ ok frame is. one_string frame c.name-name.result last.value (last.holds ok frame (subst (IsBodyOf frame) last.reads.bytes is));
      ids = λ own. refl;
    })
