-- Lines of a stack and a count.
use Rattle.std.specs.Prelude.{ℕ, ◌+◌, ◌%◌, ◌^◌, List, [], ◌∷◌, ◌++◌, codes, decimal, fold, sum_by}
use Rattle.std.specs.Cmp.Lexicographic.{slice_cmp}
use Rattle.std.specs.List.{flat_map}
use Rattle.std.specs.Ordering.{match_ordering, nat_cmp}

-- a stack and its count
pub record Line : Type 0 where
  pub stack : List ℕ
  pub count : ℕ

abbrev pub stack_line : List ℕ → ℕ → Line
stack_line stack count = record { stack = stack; count = count }

-- Lines in the order of their stacks, to which a count is added: to that of the stack's line, modulo
-- 2^64, or in a line of its own.
abbrev pub add_count : List Line → (stack : List ℕ) → (count : ℕ) → List Line
add_count [] stack count = stack_line stack count ∷ []
add_count (l ∷ ls) stack count =
    match_ordering (slice_cmp nat_cmp stack l.stack)
    (stack_line stack count ∷ l ∷ ls)
    (stack_line l.stack ((l.count + count) % 2 ^ 64) ∷ ls)
    (l ∷ add_count ls stack count)

-- other lines are added, in turn
abbrev pub add_lines : List Line → (additions : List Line) → List Line
add_lines lines additions = fold (λ sums (l : Line). add_count sums l.stack l.count) lines additions

-- the sum of all counts
abbrev pub total_of : List Line → ℕ
total_of lines = sum_by (λ (l : Line). l.count) lines

-- the text of a line
abbrev pub line_text : Line → List ℕ
line_text l = l.stack ++ (codes " " ++ (decimal l.count ++ codes "\n"))

-- that of lines
abbrev pub lines_text : List Line → List ℕ
lines_text lines = flat_map line_text lines
