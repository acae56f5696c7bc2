use Rattle.std.proofs.Common.{◌≡◌, take, map}
use Rattle.perf_script.specs.Labels.{label_view, own_label}
use Rattle.perf_script.proofs.labels.labels_with.Given as goal

abbrev pub invariant-loop-event : goal.invariant-loop-event
invariant-loop-event l = map label_view l.list.items ≡ map (own_label l.filter l.width) (take l.event-index l.events)
