use Rattle.std.proofs.Common.{◌≡◌, ℕ, ◌≤◌, List, length, take, refl, sym, subst, ◌∙◌, arith}
use Rattle.std.specs.Prelude.{nat_le}
use Rattle.std.proofs.lemmas.Bool.{leb-true}
use Rattle.perf_base.specs.FieldWords.{bytes, gap, require}
use Rattle.perf_base.specs.Layout.{Parts, done, ◌>>=◌}
use Rattle.perf_base.specs.declared.error.ErrorKind.TheVariants.{InvalidRecord}
use Rattle.perf_types.specs.MmapDetail.{DetailValue, build_id_is}
use Rattle.perf_flat.specs.CursorReads.{IsBodyOf}
use Rattle.perf_flat.specs.Strings.{HasBytes}
use Rattle.perf_flat.proofs.Fields.{passed_bytes, passed_over}
use Rattle.perf_flat.proofs.Names.{part_there}
use Rattle.perf_flat.proofs.RecordWrites.{next_number}
use Rattle.perf_flat.proofs.CursorRuns.{Passed, then_reads, all_read, still_fresh, refuses_not}
use Rattle.perf_flat.proofs.cursor.BodyCursor.build_id.Goals as goal

pub returns : goal.returns
returns g c =
    let order = g.E.Endian.order c.args.order.now in
    let len_at = c.read_u8_as_u64-len in
    let n : ℕ = len_at.result in
    let b = len_at.new.self in
    let d = c.pass.new.self in
    let run = c.pass-bytes in
    let e = run.new.self in
    let unused : Passed 3 b c.pass.result d = record { bytes = c.pass.ensures.bytes; short = c.pass.ensures.short; fits = c.pass.ensures.fits } in
    let passed : Passed 20 d run.result e = record { bytes = run.ensures.bytes; short = run.ensures.short; fits = run.ensures.fits } in
    let over = passed_over order 3 b d c.pass.result b.within unused in
    let list = passed_bytes order 20 d e run.result d.within passed in
    let all : List ℕ = list.contents in
    let check = c.require.ensures order in
    let last : List ℕ → Parts DetailValue = λ xs. require (nat_le n 20) InvalidRecord >>= λ _. done (build_id_is (take n xs)) in
    let body = list.reads.bytes ∙ over.bytes ∙ len_at.ensures.bytes in
    record {
      value = build_id_is (take n all);
      reads = next_number len_at.ensures (then_reads (gap 3) (λ _. bytes 20 >>= λ xs. last xs) over
          (then_reads (bytes 20) (λ xs. last xs) list.reads (then_reads (require (nat_le n 20) InvalidRecord) (λ _. done (build_id_is (take n all))) check all_read)));
      holds = λ ok. record {
        maj = refl;
        min = refl;
        ino = refl;
        ino_generation = refl;
        build_id = λ frame is.
            let few : n ≤ 20 = leb-true n 20 (refuses_not check ok) in
            let fresh = still_fresh check ok in
            let long : length all ≡ 20 = list.long fresh in
            let has = list.there fresh frame (subst (IsBodyOf frame) (sym (over.bytes ∙ len_at.ensures.bytes)) is) in
            subst (λ x. HasBytes frame x (take n all)) (sym c.span_within.ensures) (part_there frame all run.result 0 n is.short (omega arith) has);
      };
    }
