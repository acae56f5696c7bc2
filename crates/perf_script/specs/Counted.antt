-- What is kept of counters.
use Rattle.std.specs.Prelude.{◌≡◌, ℕ, List, unwrap_or}
use Rattle.std.specs.BTreeMap.{get}
use Rattle.std.specs.Ordering.{nat_cmp}
use Rattle.perf_script.specs.Moved.{last_value}
use Rattle.perf_script.specs.declared.readings.Counters.{Counters}
use Rattle.perf_script.specs.declared.readings.Reading.{Reading}

-- the last values are those of what was read, the newest first
abbrev pub IsCounted : Counters → List Reading → Type 0
IsCounted counters older = (id : ℕ) → unwrap_or (get nat_cmp counters.values id) 0 ≡ last_value older id
