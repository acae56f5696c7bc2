use Rattle.std.proofs.Common.{ℕ, [], ◌∷◌, sym, subst, refl}
use Rattle.perf_base.specs.FieldWords.{u32}
use Rattle.perf_sample_types.specs.Sample.{raw, has_one, raw_padding}
use Rattle.perf_sample_types.specs.SampleGetters.{bytes_of_field}
use Rattle.perf_flat.specs.CursorReads.{ReadsParts}
use Rattle.perf_flat.specs.Samples.{HasString}
use Rattle.perf_flat.proofs.CursorRuns.{Passed}
use Rattle.perf_flat.proofs.Fields.{there_for, none_for, flag_is, passed_bytes, passed_over, raw_read}
use Rattle.perf_flat.proofs.cursor.BodyCursor.raw.Goals as goal

pub returns-then-contains : goal.returns-then-contains
returns-then-contains g c = λ settings asked.
    let o = g.E.Endian.order c.args.order.now in
    let a = c.args.self.now in
    let one = c.read_u32-len in
    let b = one.new.self in
    let n = one.result in
    let d = c.pass-bytes.new.self in
    let passed : Passed n b c.pass-bytes.result c.pass-bytes.new.self = record { bytes = c.pass-bytes.ensures.bytes; short = c.pass-bytes.ensures.short; fits = c.pass-bytes.ensures.fits } in
    let pad : ℕ = raw_padding n in
    let skipped : Passed c.raw_padding.result d c.pass.result c.pass.new.self = record { bytes = c.pass.ensures.bytes; short = c.pass.ensures.short; fits = c.pass.ensures.fits } in
    let padded : Passed pad d c.pass.result c.pass.new.self = subst (λ k. Passed k d c.pass.result c.pass.new.self) c.raw_padding.ensures skipped in
    let list = passed_bytes o n b d c.pass-bytes.result b.within passed in
    let rest = passed_over o pad d c.pass.new.self c.pass.result d.within padded in
    let first : ReadsParts o u32 n a b = one.ensures in
    there_for (λ frame v. HasString frame c.pass-bytes.result (bytes_of_field v)) (has_one settings.sample_type (10 ∷ [])) raw (flag_is 10 asked (c.contains.ensures tt) c.if-contains.true)
    (raw_read o n a b d c.pass.new.self c.pass-bytes.result first list rest)

pub returns-else-contains : goal.returns-else-contains
returns-else-contains g c = λ settings asked.
    let o = g.E.Endian.order c.args.order.now in
    none_for (λ frame v. HasString frame _ (bytes_of_field v)) (has_one settings.sample_type (10 ∷ [])) raw (flag_is 10 asked (c.contains.ensures tt) c.if-contains.false) (λ frame. refl)
