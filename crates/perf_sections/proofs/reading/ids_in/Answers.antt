use Rattle.std.proofs.Common.{◌/◌, drop}
use Rattle.perf_base.specs.Dynamic.{order_of}
use Rattle.perf_base.specs.Layout.{words_of}
use Rattle.perf_sections.proofs.Words.{words_more}
use Rattle.perf_sections.proofs.reading.ids_in.Goals as goal

pub loop-index-preserved : goal.loop-index-preserved
loop-index-preserved c = rw c.in_ok-push.ensures.items (words_more (order_of c.args.order) c.args.bytes.now c.loop-index.ids.items c.args.section.start (c.args.section.size / 8) c.loop-index.index c.number_at.result
    (words_of (order_of c.args.order) (c.args.section.size / 8) (drop c.args.section.start c.args.bytes.now)) c.loop-index-test.true c.number_at.ensures c.loop-index.invariant)
