-- How far counters move.
use Rattle.std.specs.Prelude.{ℕ, ◌+◌, ◌-◌, ◌%◌, ◌^◌, ◌==◌, List, [], ◌∷◌, if◌then◌else◌}
use Rattle.perf_script.specs.declared.readings.Reading.{Reading}

-- the last value of a counter, by what was read before, the newest first; 0 at first
abbrev pub last_value : List Reading → (id : ℕ) → ℕ
last_value [] id = 0
last_value (r ∷ older) id = if r.id == id then r.value else last_value older id

-- how far it moved since then, modulo 2^64
abbrev pub moved : List Reading → Reading → ℕ
moved older r = (r.value + (2 ^ 64 - last_value older r.id)) % 2 ^ 64
