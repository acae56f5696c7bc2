use Rattle.perf_file.specs.Views.{view}
use Rattle.perf_flame.specs.Tallies.{tally_lines}
use Rattle.perf_fold.specs.EventLabels.{labels_view}
use Rattle.perf_fold.proofs.Adding.{add_some, add_none}
use Rattle.perf_fold.proofs.folding.Folder.add.Goals as goal

pub returns-in-Some-clause-added : goal.returns-in-Some-clause-added
returns-in-Some-clause-added c = λ m is past.
    let own = c.args.self.now in
    add_some c.add_if_taken.result (view c.args.walk.now.recording.now) m c.args.found.now c.args.walk.now.frame c.frame-frame.result.now own.how (labels_view own.labels.now)
    (tally_lines own.tally) (tally_lines c.add_if_taken.new.self.tally) c.in-Some.sample c.frame-frame.ensures is c.in-Some.ensures
    (λ s there same. c.add_if_taken.ensures.added m s is past there same)

pub returns-in-None-clause-added : goal.returns-in-None-clause-added
returns-in-None-clause-added c = λ m is past.
    let own = c.args.self.now in
    add_none (view c.args.walk.now.recording.now) m c.args.found.now c.args.walk.now.frame c.frame-frame.result.now own.how (labels_view own.labels.now) (tally_lines own.tally)
    c.frame-frame.ensures is c.in-None.ensures
