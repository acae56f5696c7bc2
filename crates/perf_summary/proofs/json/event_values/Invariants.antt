use Rattle.std.proofs.Common.{◌≡◌, map, take}
use Rattle.serde_json.specs.View.{view}
use Rattle.perf_summary.specs.OwnData.{own_events_data}
use Rattle.perf_summary.proofs.json.event_values.Given as goal

abbrev pub invariant-loop-index : goal.invariant-loop-index
invariant-loop-index l = map view l.values.items ≡ own_events_data l.counts 0 (take l.index l.events)
