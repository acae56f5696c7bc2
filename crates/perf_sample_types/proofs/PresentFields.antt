-- A field of a table that is known to be present, or whose presence is tested.
use Rattle.std.proofs.Common.{◌≡◌, ℕ, List, Some, true, refl}
use Rattle.perf_base.specs.Layout.{Parts}
use Rattle.perf_base.specs.Order.{Order}
use Rattle.perf_base.specs.Took.{took, took_by_places}
use Rattle.perf_base.proofs.Took.{then_take}
use Rattle.perf_reader.specs.TableRuns.{field_took}
use Rattle.perf_reader.proofs.TableRuns.{field_there, field_absent}

-- a field that is present takes what its parts take by places
pub field_present : {A : Type 0} (o : Order) (p : Parts A) (bytes : List ℕ) (n : ℕ) → field_took o (Some p) bytes n ≡ then_take (λ v left m. took (Some v) left m) (took_by_places o p bytes n)
field_present o p bytes n = field_there o true p bytes n refl

-- what the filling of a field needs
pub ruleset filled_fields = (field_present, field_there, field_absent)
