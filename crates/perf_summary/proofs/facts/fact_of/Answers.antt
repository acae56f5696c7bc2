use Rattle.perf_file.specs.Views.{view}
use Rattle.perf_summary.proofs.Found.{fact_there, no_fact}
use Rattle.perf_summary.proofs.facts.fact_of.Goals as goal

pub returns-in-Some : goal.returns-in-Some
returns-in-Some c = λ m found is past.
    let w = c.args.walk.now in
    fact_there (view w.recording.now) c.args.entry.now m found w.frame c.frame-frame.result.now c.in-Some.subject c.comm.result c.frame-frame.ensures is c.in-Some.ensures (c.comm.ensures m.known past)

pub returns-in-None : goal.returns-in-None
returns-in-None c = λ m found is past.
    let w = c.args.walk.now in
    no_fact (view w.recording.now) c.args.entry.now m found w.frame c.frame-frame.result.now c.frame-frame.ensures is c.in-None.ensures
