use Rattle.std.proofs.Common.{Some, sym, ap, subst, ◌∙◌}
use Rattle.perf_base.specs.Configuration.{under_misc}
use Rattle.perf_base.specs.Configured.{configuration_of, endian_of}
use Rattle.perf_records.specs.Bodies.{body_of_type}
use Rattle.perf_flat.specs.CursorReads.{WritesRecord}
use Rattle.perf_flat.proofs.bodies.put_record.Goals as goal

pub returns-in-Some : goal.returns-in-Some
returns-in-Some g c =
    let settings = under_misc c.args.header.misc (configuration_of c.args.config.now) in
    let ty = c.args.header.type_ in
    let known = c.put_known in
    subst (λ t. WritesRecord settings (g.E.Endian.order (endian_of c.args.config.now)) (body_of_type settings ty t) c.args.bytes.now c.args.frame.now known.result known.new.frame) (sym c.in-Some.is ∙ c.of-kind.ensures)
    (subst (λ o. WritesRecord settings o (body_of_type settings ty (Some c.in-Some.known)) c.args.bytes.now c.args.frame.now known.result known.new.frame) (ap g.E.Endian.order c.endian-order.ensures) (known.ensures ty))

pub returns-in-None : goal.returns-in-None
returns-in-None g c =
    let settings = under_misc c.args.header.misc (configuration_of c.args.config.now) in
    let order = g.E.Endian.order (endian_of c.args.config.now) in
    let ty = c.args.header.type_ in
    let unknown = c.put_unknown in
    subst (λ t. WritesRecord settings order (body_of_type settings ty t) c.args.bytes.now c.args.frame.now unknown.result unknown.new.frame) (sym c.in-None.is ∙ c.of-kind.ensures) (unknown.ensures settings order ty)
