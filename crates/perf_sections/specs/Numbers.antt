-- Numbers at their offsets.
use Rattle.std.specs.Prelude.{ℕ, List}
use Rattle.perf_base.specs.Layout.{slice}
use Rattle.perf_base.specs.Order.{Order}

-- the number of the eight bytes at an offset
abbrev pub number : Order → List ℕ → ℕ → ℕ
number o bytes at = o.eight (slice bytes at 8)

-- the number of the four bytes at an offset
abbrev pub small_number : Order → List ℕ → ℕ → ℕ
small_number o bytes at = o.four (slice bytes at 4)
