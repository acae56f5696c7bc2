use Rattle.std.proofs.Common.{[], ◌∷◌, refl}
use Rattle.perf_sample_types.specs.Sample.{sized_bytes, has_one}
use Rattle.perf_sample_types.specs.SampleGetters.{bytes_of_field}
use Rattle.perf_flat.specs.Samples.{HasString}
use Rattle.perf_flat.proofs.CursorRuns.{Passed}
use Rattle.perf_flat.proofs.Fields.{there_for, none_for, flag_is, passed_bytes, sized_read}
use Rattle.perf_flat.proofs.cursor.BodyCursor.aux.Goals as goal

pub returns-then-contains : goal.returns-then-contains
returns-then-contains g c = λ settings asked.
    let o = g.E.Endian.order c.args.order.now in
    let a = c.args.self.now in
    let one = c.read_u64-size in
    let b = one.new.self in
    let passed : Passed one.result b c.pass.result c.pass.new.self = record { bytes = c.pass.ensures.bytes; short = c.pass.ensures.short; fits = c.pass.ensures.fits } in
    let list = passed_bytes o one.result b c.pass.new.self c.pass.result b.within passed in
    there_for (λ frame v. HasString frame c.pass.result (bytes_of_field v)) (has_one settings.sample_type (20 ∷ [])) sized_bytes (flag_is 20 asked (c.contains.ensures tt) c.if-contains.true)
    (sized_read o one.result a b c.pass.new.self c.pass.result one.ensures list)

pub returns-else-contains : goal.returns-else-contains
returns-else-contains g c = λ settings asked.
    let o = g.E.Endian.order c.args.order.now in
    none_for (λ frame v. HasString frame _ (bytes_of_field v)) (has_one settings.sample_type (20 ∷ [])) sized_bytes (flag_is 20 asked (c.contains.ensures tt) c.if-contains.false) (λ frame. refl)
