use Rattle.std.proofs.Common.{◌<◌, sym, ◌∙◌, subst}
use Rattle.perf_base.specs.Configured.{configuration_of, endian_of}
use Rattle.perf_flat.proofs.ManyFrames.{one_more, full, all_read}
use Rattle.perf_flat.proofs.read.read_many.Goals as goal

pub returns-then-left-lt-HEADER-clause-count : goal.returns-then-left-lt-HEADER-clause-count
returns-then-left-lt-HEADER-clause-count g c =
    let l = c.loop-count in
    (all_read (configuration_of c.args.config.now) (g.E.Endian.order (endian_of c.args.config.now)) c.args.bytes.now c.args.frames.now l.count l.left.now l.frames l.invariant c.loop-count-test.true c.if-left-lt-HEADER.true).count

pub returns-then-left-lt-HEADER-clause-how : goal.returns-then-left-lt-HEADER-clause-how
returns-then-left-lt-HEADER-clause-how g c =
    let l = c.loop-count in
    c.end_before.ensures
    ∙ (all_read (configuration_of c.args.config.now) (g.E.Endian.order (endian_of c.args.config.now)) c.args.bytes.now c.args.frames.now l.count l.left.now l.frames l.invariant c.loop-count-test.true c.if-left-lt-HEADER.true).how

pub loop-count-preserved : goal.loop-count-preserved
loop-count-preserved g c =
    let l = c.loop-count in
    let next = c.read_next-left in
    one_more (configuration_of c.args.config.now) (g.E.Endian.order (endian_of c.args.config.now)) c.args.bytes.now c.args.frames.now l.count l.left.now l.frames next.new.frame next.result.now
    l.invariant (subst (λ n. l.count < n) (sym l.invariant.room) c.loop-count-test.true) c.if-left-lt-HEADER.false next.ensures.flat next.ensures.after

pub returns-clause-count : goal.returns-clause-count
returns-clause-count g c =
    let l = c.loop-count in
    (full (configuration_of c.args.config.now) (g.E.Endian.order (endian_of c.args.config.now)) c.args.bytes.now c.args.frames.now l.count l.left.now l.frames l.invariant c.loop-count-test.false l.auto.count-end).count

pub returns-clause-how : goal.returns-clause-how
returns-clause-how g c =
    let l = c.loop-count in
    (full (configuration_of c.args.config.now) (g.E.Endian.order (endian_of c.args.config.now)) c.args.bytes.now c.args.frames.now l.count l.left.now l.frames l.invariant c.loop-count-test.false l.auto.count-end).how
