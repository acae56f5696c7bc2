-- How the boxes are found in one pass over stacks in order.
use Rattle.std.specs.Prelude.{ℕ, ◌+◌, ◌==◌, nat_lt, nat_le, nat_eq, if◌then◌else◌, List, [], ◌∷◌, ◌++◌, length, take, count_by, slice_index}
use Rattle.std.specs.List.{common_prefix_len}
use Rattle.perf_flame.specs.Lines.{Line}
use Rattle.perf_flame.specs.Boxes.{Box, flame_box, last_name, if_wide, joined_below}

-- how many first bytes each key shares with the one before it, of which the first is after `last`
abbrev pub shares : (last : List ℕ) → List Line → List ℕ
shares last [] = []
shares last (l ∷ ls) = common_prefix_len nat_eq last l.stack ∷ shares l.stack ls

-- the counts of the first stacks, as long as each shares the bytes up to a place with the one before it
abbrev pub run : (place : ℕ) → List ℕ → List Line → ℕ
run place [] ls = 0
run place (n ∷ ns) [] = 0
run place (n ∷ ns) (l ∷ ls) = if nat_lt place n then l.count + run place ns ls else 0

-- the box of a frame that ends at a place, unless the stack before shares it; what it is worth of its first stack is given
abbrev pub if_new : (total : ℕ) → Box → (share place : ℕ) → List ℕ → List Line → List Box
if_new total b share place ns ls =
    if nat_le share place then if_wide total (flame_box b.name b.depth b.left (b.worth + run place ns ls)) else []

-- that at a place of a stack, if a frame ends there
abbrev pub scanned_box : (total before : ℕ) → Line → (share : ℕ) → List ℕ → List Line → (place : ℕ) → List Box
scanned_box total before l share ns ls place =
    if slice_index l.stack place == 0
    then if_new total (flame_box (last_name (take place l.stack)) (count_by (λ b. b == 0) (take place l.stack) + 1) before l.count) share place ns ls
    else []

-- those of a stack
abbrev pub scanned_boxes : (total before : ℕ) → Line → (share : ℕ) → List ℕ → List Line → List Box
scanned_boxes total before l share ns ls = joined_below (length l.stack) (scanned_box total before l share ns ls)

-- those of stacks, with the counts of the stacks before them
abbrev pub scan : (total before : ℕ) → List ℕ → List Line → List Box
scan total before [] ls = []
scan total before (n ∷ ns) [] = []
scan total before (n ∷ ns) (l ∷ ls) = scanned_boxes total before l n ns ls ++ scan total (before + l.count) ns ls
