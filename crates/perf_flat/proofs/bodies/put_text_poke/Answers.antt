use Rattle.std.proofs.Common.{◌≡◌, ℕ, ◌+◌, ◌≤◌, length, take, drop, refl, sym, subst, arith}
use Rattle.perf_base.specs.FieldWords.{bytes}
use Rattle.perf_base.specs.Layout.{done, map_parts}
use Rattle.perf_flat.proofs.Fields.{passed_bytes}
use Rattle.perf_flat.proofs.Names.{part_there}
use Rattle.perf_flat.proofs.RecordWrites.{next_number}
use Rattle.perf_flat.proofs.CursorRuns.{Passed, then_reads, all_read}
use Rattle.perf_flat.proofs.Spans.{two_strings}
use Rattle.perf_flat.specs.CursorReads.{IsBodyOf}
use Rattle.perf_flat.specs.Strings.{HasBytes}
use Rattle.perf_records.specs.Records.{text_poke_is}
use Rattle.perf_types.specs.TextPoke.{text_poke, poked_len}
use Rattle.perf_flat.proofs.bodies.put_text_poke.Goals as goal

pub returns : goal.returns
returns g c = λ settings.
    let order = g.E.Endian.order c.args.order.now in
    let start = c.new-cursor in
    let addr_at = c.read_u64-addr in
    let old_at = c.read_u16_as_u64-old_len in
    let new_at = c.read_u16_as_u64-new_len in
    let old : ℕ = old_at.result in
    let new : ℕ = new_at.result in
    let n : ℕ = poked_len (old + new) in
    let a = new_at.new.self in
    let run = c.pass-run in
    let passed : Passed c.poked_len.result a run.result run.new.self = record { bytes = run.ensures.bytes; short = run.ensures.short; fits = run.ensures.fits } in
    let last = passed_bytes order n a run.new.self run.result a.within (subst (λ m. Passed m a run.result run.new.self) c.poked_len.ensures.exact passed) in
    let all = last.contents in
    c.finish.ensures settings order (map_parts text_poke_is text_poke) (text_poke_is (record { addr = addr_at.result; old_bytes = take old all; new_bytes = take new (drop old all) })) c.args.body.now (record {
      start = start.result;
      whole = start.ensures.bytes;
      front = start.ensures.at;
      fresh = start.ensures.refusal;
      reads = next_number addr_at.ensures (next_number old_at.ensures.reads (next_number new_at.ensures.reads
          (then_reads (bytes n) (λ x. done (text_poke_is (record { addr = addr_at.result; old_bytes = take old x; new_bytes = take new (drop old x) }))) last.reads all_read)));
      words = λ ok. refl;
      there = λ ok frame is.
          let has = last.there ok frame (subst (IsBodyOf frame) last.reads.bytes is) in
          let long : length all ≡ n = last.long ok in
          let fits : old + new ≤ length all = omega arith in
          let one = part_there frame all run.result 0 old is.short (omega arith) has in
          let two = part_there frame all run.result old new is.short fits has in
          two_strings frame c.span_within-old.result c.span_within-new.result (take old all) (take new (drop old all))
          (subst (λ x. HasBytes frame x (take old all)) (sym c.span_within-old.ensures) one) (subst (λ x. HasBytes frame x (take new (drop old all))) (sym c.span_within-new.ensures) two);
      ids = λ own. refl;
    })
