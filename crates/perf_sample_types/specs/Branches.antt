-- The numbers of a branch stack, three for each branch: where it came from, where it went, and a
-- word of bit fields.
use Rattle.std.specs.Prelude.{ℕ, List, [], ◌∷◌, take, drop}
use Rattle.perf_base.specs.Order.{Order}
use Rattle.perf_words.specs.Branch.{Branch}

-- numbers, three for each branch
abbrev pub branches_of : List ℕ → List Branch
branches_of (from ∷ to ∷ word ∷ words) =
    record { from = from; to = to; word = word } ∷ branches_of words
branches_of _ = []

-- the numbers of a branch
abbrev pub branch_numbers : Branch → List ℕ
branch_numbers b = b.from ∷ b.to ∷ b.word ∷ []

-- the branch in these 24 bytes
abbrev pub branch_of : Order → List ℕ → Branch
branch_of o bytes = record {
  from = o.eight (take 8 bytes);
  to = o.eight (take 8 (drop 8 bytes));
  word = o.eight (take 8 (drop 16 bytes));
}
