-- What the words of a command line ask for beside a program's work.
use Rattle.std.specs.Prelude.{ℕ, Bool, false, List, [], ◌∷◌, codes, if◌then◌else◌}
use Rattle.std.specs.Str.{bytes_eq}

-- whether the words after the program's name ask for its usage: the only one is `--help`
abbrev pub asks_for_usage : List (List ℕ) → Bool
asks_for_usage [] = false
asks_for_usage (word ∷ []) = bytes_eq word (codes "--help")
asks_for_usage (first ∷ second ∷ more) = false

-- the exit status of a program that prints its usage
abbrev pub usage_status : List (List ℕ) → ℕ
usage_status words = if asks_for_usage words then 0 else 2
