-- The capacity of a list that is read item by item.
use Rattle.std.specs.Prelude.{ℕ, Option, ◌≤◌, MatchOption}
use Rattle.perf_buffers.specs.Room.{unhinted_bytes}

-- The capacity that is reserved before the first item of a list is read: at most the claimed count,
-- and at most one item for each byte that is left, or that a buffer is assumed to have if the input
-- does not report how many are left.
abbrev pub IsRoom : (hint : Option ℕ) (claimed room : ℕ) → Type 0
IsRoom hint claimed room = (room ≤ claimed) × MatchOption hint (room ≤ unhinted_bytes) (λ left. room ≤ left)
