use Rattle.perf_file.specs.Views.{view}
use Rattle.perf_summary.proofs.Found.{added_some, added_none}
use Rattle.perf_summary.proofs.threads.add_found.Goals as goal

pub returns-in-Some-clause-added : goal.returns-in-Some-clause-added
returns-in-Some-clause-added c = λ m found is past.
    added_some c.add.result (view c.args.walk.now.recording.now) c.args.entry.now m c.in-Some.fact c.args.threads.now c.add.new.threads (c.in-Some.ensures m found is past) c.add.ensures.adds

pub returns-in-None-clause-added : goal.returns-in-None-clause-added
returns-in-None-clause-added c = λ m found is past.
    added_none (view c.args.walk.now.recording.now) c.args.entry.now m c.args.threads.now (c.in-None.ensures m found is past)
