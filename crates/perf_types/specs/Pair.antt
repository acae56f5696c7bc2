-- Two numbers of four bytes.
use Rattle.std.specs.Prelude.{ℕ}
use Rattle.perf_base.specs.Layout.{Parts, done, ◌>>=◌}
use Rattle.perf_base.specs.FieldWords.{u32}

-- one after the other
abbrev pub pair : Parts (ℕ × ℕ)
pair = do
  first ← u32
  second ← u32
  done (first, second)
