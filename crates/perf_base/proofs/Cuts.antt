-- A text that fits is kept in full.
use Rattle.std.proofs.Common.{◌≡◌, ◌≤◌, ℕ, List, length, rules}
use Rattle.std.specs.Fmt.Cut.{cut_to}

pub cut_to-whole : (n : ℕ) (xs : List ℕ) → length xs ≤ n → cut_to n xs ≡ xs
unfolding cut_to
cut_to-whole n xs h = search rules
