use Rattle.perf_walk.proofs.Sampled.{sample_there, no_sample_there}
use Rattle.perf_walk.proofs.sampling.sample_in.Goals as goal

pub returns-then-frame-ne-PERF_RECORD_SAMPLE : goal.returns-then-frame-ne-PERF_RECORD_SAMPLE
returns-then-frame-ne-PERF_RECORD_SAMPLE c = λ config o bytes is. no_sample_there config o bytes c.args.frame.now is c.if-frame-ne-PERF_RECORD_SAMPLE.true

pub returns : goal.returns
returns c = λ config o bytes is.
    sample_there config o bytes c.args.frame.now is c.if-frame-ne-PERF_RECORD_SAMPLE.false c.number.result c.number-2.result c.of_misc.result
    c.number.ensures c.number-2.ensures c.of_misc.ensures
