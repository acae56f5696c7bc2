use Rattle.std.proofs.Common.{[], ◌∷◌, refl, arith}
use Rattle.perf_sample_types.specs.Sample.{call_chain, has_one}
use Rattle.perf_sample_types.specs.SampleGetters.{numbers_in}
use Rattle.perf_flat.specs.Samples.{HasList}
use Rattle.perf_flat.proofs.Fields.{there_for, none_for, flag_is, chain_read}
use Rattle.perf_flat.proofs.cursor.BodyCursor.call_chain.Goals as goal

pub returns-then-contains : goal.returns-then-contains
returns-then-contains g c = λ settings asked.
    let o = g.E.Endian.order c.args.order.now in
    let a = c.args.self.now in
    let one = c.read_u64-count in
    let n = one.result in
    there_for (λ frame v. HasList o frame c.pass_items.result (numbers_in v)) (has_one settings.sample_type (5 ∷ [])) call_chain (flag_is 5 asked (c.contains.ensures tt) c.if-contains.true)
    (chain_read o n a one.new.self c.pass_items.new.self c.pass_items.result one.ensures (c.pass_items.ensures o n (omega arith)))

pub returns-else-contains : goal.returns-else-contains
returns-else-contains g c = λ settings asked.
    let o = g.E.Endian.order c.args.order.now in
    none_for (λ frame v. HasList o frame _ (numbers_in v)) (has_one settings.sample_type (5 ∷ [])) call_chain (flag_is 5 asked (c.contains.ensures tt) c.if-contains.false) (λ frame. refl)
