use Rattle.std.proofs.Common.{◌≡◌, [], ◌∷◌, ◌∙◌, ap, sym, subst, refl}
use Rattle.std.specs.Prelude.{unwrap_or, nat_le, Some}
use Rattle.perf_base.specs.FieldWords.{require}
use Rattle.perf_base.specs.declared.error.ErrorKind.TheVariants.{InvalidRecord}
use Rattle.perf_sample_types.specs.Sample.{stack, has_one}
use Rattle.perf_sample_types.specs.SampleGetters.{bytes_of_field}
use Rattle.perf_flat.specs.Arrays.{span, low_u32}
use Rattle.perf_flat.specs.CursorReads.{ReadsParts, ReadsFor}
use Rattle.perf_flat.specs.SampleReads.{InFrames}
use Rattle.perf_flat.specs.Samples.{HasString}
use Rattle.perf_flat.proofs.CursorRuns.{Passed}
use Rattle.perf_flat.proofs.Fields.{there_for, none_for, flag_is, passed_bytes, stack_read}
use Rattle.perf_flat.proofs.cursor.BodyCursor.stack.Goals as goal

pub returns-then-contains : goal.returns-then-contains
returns-then-contains g c = λ settings asked.
    let o = g.E.Endian.order c.args.order.now in
    let a = c.args.self.now in
    let one = c.read_u64-size in
    let b = one.new.self in
    let size = one.result in
    let d = c.pass-bytes.new.self in
    let passed : Passed size b c.pass-bytes.result c.pass-bytes.new.self = record { bytes = c.pass-bytes.ensures.bytes; short = c.pass-bytes.ensures.short; fits = c.pass-bytes.ensures.fits } in
    let list = passed_bytes o size b d c.pass-bytes.result b.within passed in
    let used = c.read_u64_if in
    let end = c.require.new.self in
    let value = c.unwrap_or-used.ensures in
    let fits : ReadsParts {A = Unit {0}} o (require (nat_le (unwrap_or used.result 0) size) InvalidRecord) tt used.new.self end =
    subst (λ n. ReadsParts {A = Unit {0}} o (require (nat_le n size) InvalidRecord) tt used.new.self end) value (c.require.ensures o) in
    let read = stack_read o size used.result a b d used.new.self end c.pass-bytes.result one.ensures list used.ensures fits in
    let len : low_u32 (unwrap_or used.result 0) ≡ c.low_u32.result = sym (c.low_u32.ensures ∙ ap low_u32 value) in
    there_for (λ frame v. HasString frame (span c.pass-bytes.result.at c.low_u32.result) (bytes_of_field v)) (has_one settings.sample_type (13 ∷ [])) stack (flag_is 13 asked (c.contains.ensures tt) c.if-contains.true)
    (subst (λ n. ReadsFor o stack (λ v. InFrames a.bytes.now (λ frame. HasString frame (span c.pass-bytes.result.at n) (bytes_of_field (Some v)))) a end) len read)

pub returns-else-contains : goal.returns-else-contains
returns-else-contains g c = λ settings asked.
    let o = g.E.Endian.order c.args.order.now in
    none_for (λ frame v. HasString frame _ (bytes_of_field v)) (has_one settings.sample_type (13 ∷ [])) stack (flag_is 13 asked (c.contains.ensures tt) c.if-contains.false) (λ frame. refl)
