-- Laws of folded stacks and flame graphs.
use Rattle.std.specs.Prelude.{◌≡◌, ◌≢◌, ℕ, ◌+◌, ◌%◌, ◌^◌, ◌<◌, ◌≤◌, ◌⊎◌, Bool, true, false, if◌then◌else◌, List, [], ◌∷◌, map, codes, Option, Some, None, sum_by}
use Rattle.std.specs.Cmp.Lexicographic.{slice_cmp}
use Rattle.std.specs.List.{All, flat_map, list_any}
use Rattle.std.specs.List.Sorted.{IsStrictlySortedBy}
use Rattle.std.specs.Ordering.{nat_cmp, is_eq}
use Rattle.perf_flame.specs.Boxes.{begins, is_before, worth_of, left_of}
use Rattle.perf_flame.specs.Lines.{Line, add_lines, total_of}
use Rattle.perf_flame.specs.Svg.{edge, escaped, escaped_byte}

-- whether two stacks are one
abbrev pub is_same : List ℕ → List ℕ → Bool
is_same a b = is_eq (slice_cmp nat_cmp a b)

-- the count of a stack, if it has a line
abbrev pub count_of : (stack : List ℕ) → List Line → Option ℕ
count_of stack [] = None
count_of stack (l ∷ ls) = if is_same stack l.stack then Some l.count else count_of stack ls

-- the sum of the counts of a stack
abbrev pub sum_of : (stack : List ℕ) → List Line → ℕ
sum_of stack lines = sum_by (λ (l : Line). if is_same stack l.stack then l.count else 0) lines

abbrev pub LinesAreSums : Type 0
LinesAreSums =
    (stack : List ℕ) (additions : List Line) → All (λ (l : Line). l.count < 2 ^ 64) additions
    → count_of stack (add_lines [] additions)
    ≡ (if list_any (λ (l : Line). is_same stack l.stack) additions then Some (sum_of stack additions % 2 ^ 64) else None)

abbrev pub LinesAscend : Type 0
LinesAscend = (additions : List Line) → IsStrictlySortedBy (slice_cmp nat_cmp) (map (λ (l : Line). l.stack) (add_lines [] additions))

abbrev pub OrderIsFree : Type 0
OrderIsFree = (lines first second : List Line) → add_lines (add_lines lines first) second ≡ add_lines (add_lines lines second) first

abbrev pub GroupingIsFree : Type 0
GroupingIsFree = (lines first second : List Line) → add_lines lines (add_lines first second) ≡ add_lines (add_lines lines first) second

abbrev pub TotalIsKept : Type 0
TotalIsKept = (additions : List Line) → total_of (add_lines [] additions) % 2 ^ 64 ≡ total_of additions % 2 ^ 64

-- a part of one line is inside a part of another
abbrev pub IsInside : (left right outer_left outer_right : ℕ) → Type 0
IsInside left right outer_left outer_right = (outer_left ≤ left) × (right ≤ outer_right)

abbrev pub ChildIsInside : Type 0
ChildIsInside =
    (lines : List Line) (parent child : List ℕ) → begins parent child ≡ true
    → IsInside (left_of lines child) (left_of lines child + worth_of lines child) (left_of lines parent) (left_of lines parent + worth_of lines parent)

abbrev pub ChildIsDrawnInside : Type 0
ChildIsDrawnInside =
    (lines : List Line) (parent child : List ℕ) → begins parent child ≡ true
    → IsInside (edge (total_of lines) (left_of lines child)) (edge (total_of lines) (left_of lines child + worth_of lines child))
    (edge (total_of lines) (left_of lines parent)) (edge (total_of lines) (left_of lines parent + worth_of lines parent))

abbrev pub OthersAreApart : Type 0
OthersAreApart =
    (lines : List Line) (first second : List ℕ) → is_before first second ≡ true → begins first second ≡ false
    → left_of lines first + worth_of lines first ≤ left_of lines second

abbrev pub OthersAreDrawnApart : Type 0
OthersAreDrawnApart =
    (lines : List Line) (first second : List ℕ) → is_before first second ≡ true → begins first second ≡ false
    → edge (total_of lines) (left_of lines first + worth_of lines first) ≤ edge (total_of lines) (left_of lines second)

-- a byte that opens and closes nothing in XML
abbrev pub IsPlain : List ℕ → Type 0
IsPlain piece = (b : ℕ) × (piece ≡ b ∷ []) × (b ≢ 38) × (b ≢ 60) × (b ≢ 62) × (b ≢ 34)

-- a name of one
abbrev pub IsEntity : List ℕ → Type 0
IsEntity piece = (piece ≡ codes "&amp;") ⊎ ((piece ≡ codes "&lt;") ⊎ ((piece ≡ codes "&gt;") ⊎ (piece ≡ codes "&quot;")))

abbrev pub EscapedOpensNothing : Type 0
EscapedOpensNothing = (text : List ℕ) → (escaped text ≡ flat_map escaped_byte text) × ((b : ℕ) → IsPlain (escaped_byte b) ⊎ IsEntity (escaped_byte b))
