use Rattle.std.proofs.Common.{◌≡◌, take}
use Rattle.perf_fold.specs.EventLabels.{labels_view, own_labels}
use Rattle.perf_fold.proofs.labels.labels_of.Given as goal

-- the labels of the events so far
abbrev pub invariant-loop-event : goal.invariant-loop-event
invariant-loop-event l = labels_view l.list.items ≡ own_labels l.filter (take l.event-index l.events)
