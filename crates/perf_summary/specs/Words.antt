-- The words of numbers.
use Rattle.std.specs.Prelude.{ℕ, List, codes, decimal, Option, Some, None}

-- a time, `-` if it is not known
abbrev pub time_text : Option ℕ → List ℕ
time_text (Some t) = decimal t
time_text None = codes "-"
