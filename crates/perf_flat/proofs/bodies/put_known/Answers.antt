use Rattle.std.proofs.Common.{sym, subst}
use Rattle.perf_base.specs.Configuration.{under_misc}
use Rattle.perf_base.specs.Configured.{configuration_of}
use Rattle.perf_records.specs.Bodies.{body_of}
use Rattle.perf_flat.specs.CursorReads.{WritesRecord}
use Rattle.perf_flat.proofs.Samples.{sample_placed}
use Rattle.perf_flat.proofs.bodies.put_known.Goals as goal

pub returns-in-Sample : goal.returns-in-Sample
returns-in-Sample g c = λ ty.
    let settings = configuration_of c.args.config.now in
    let order = g.E.Endian.order c.args.order.now in
    let made = c.put_sample in
    subst (λ kind. WritesRecord (under_misc c.args.misc settings) order (body_of (under_misc c.args.misc settings) ty kind) c.args.body.now c.args.frame.now made.result made.new.frame) (sym c.in-Sample.is)
    (sample_placed c.args.misc settings order c.args.body.now c.args.frame.now made.result made.new.frame made.ensures)
