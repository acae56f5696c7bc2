-- The value of a count of elementary reads.
use Rattle.std.specs.Prelude.{ℕ, ◌+◌}
use Rattle.perf_base.specs.declared.reads.Steps.{Steps, Many, Sum'}

-- the number of reads that a count represents
abbrev pub steps_of : Steps → ℕ
steps_of (Many n) = n
steps_of (Sum' p s q t) = steps_of s + steps_of t
