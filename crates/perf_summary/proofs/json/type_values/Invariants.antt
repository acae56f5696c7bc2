use Rattle.std.proofs.Common.{◌≡◌, map}
use Rattle.serde_json.specs.View.{view}
use Rattle.perf_summary.specs.OwnData.{own_types_data}
use Rattle.perf_summary.proofs.json.type_values.Given as goal

abbrev pub invariant-loop-ty : goal.invariant-loop-ty
invariant-loop-ty l = map view l.values.items ≡ own_types_data l.types l.ty
