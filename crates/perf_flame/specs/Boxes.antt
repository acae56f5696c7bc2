-- The boxes of a flame graph: one for each beginning of stacks.
use Rattle.std.specs.Prelude.{ℕ, zero, suc, ◌+◌, ◌*◌, ◌==◌, ◌&&◌, nat_lt, nat_le, not, Bool, true, false, if◌then◌else◌, List, [], ◌∷◌, ◌++◌, length, take, codes, fold, sum_by, count_by, slice_index}
use Rattle.std.specs.List.{list_any}
use Rattle.perf_flame.specs.Lines.{Line, total_of}

-- whether a key begins with these bytes
abbrev pub begins : (first key : List ℕ) → Bool
begins [] key = true
begins (b ∷ bs) [] = false
begins (b ∷ bs) (c ∷ cs) = if c == b then begins bs cs else false

-- whether a key is before another
abbrev pub is_before : List ℕ → List ℕ → Bool
is_before [] [] = false
is_before [] (c ∷ cs) = true
is_before (b ∷ bs) [] = false
is_before (b ∷ bs) (c ∷ cs) = if b == c then is_before bs cs else nat_lt b c

-- the counts of the stacks that begin so
abbrev pub worth_of : List Line → (first : List ℕ) → ℕ
worth_of lines first = sum_by (λ (l : Line). if begins first l.stack then l.count else 0) lines

-- those of the stacks before these
abbrev pub left_of : List Line → (first : List ℕ) → ℕ
left_of lines first = sum_by (λ (l : Line). if is_before l.stack first then l.count else 0) lines

-- the name of the last frame of a key, whose end is left out
abbrev pub last_name : List ℕ → List ℕ
last_name key = fold (λ name b. if b == 0 then [] else name ++ b ∷ []) [] key

-- a box: its name, how many frames are below it, what is left of it, and what it is worth
pub record Box : Type 0 where
  pub name : List ℕ
  pub depth : ℕ
  pub left : ℕ
  pub worth : ℕ

abbrev pub flame_box : List ℕ → ℕ → ℕ → ℕ → Box
flame_box name depth left worth = record { name = name; depth = depth; left = left; worth = worth }

-- the box of the frames that end at a place of a key
abbrev pub box_at : List Line → (key : List ℕ) → (place : ℕ) → Box
box_at lines key place =
    flame_box (last_name (take place key)) (count_by (λ b. b == 0) (take place key) + 1)
    (left_of lines (take (place + 1) key)) (worth_of lines (take (place + 1) key))

-- a box that is at least 0.1 of 1200 pixels wide, if all stacks have that total
abbrev pub if_wide : (total : ℕ) → Box → List Box
if_wide total box = if nat_lt 0 box.worth && nat_le total (box.worth * 12000) then box ∷ [] else []

-- lists that are made of the numbers below n, one after another
abbrev pub joined_below : (n : ℕ) → (ℕ → List Box) → List Box
joined_below zero made = []
joined_below (suc n) made = joined_below n made ++ made n

-- those boxes of a stack that no stack before it has: one at each end of a frame
abbrev pub new_box_at : List Line → (done : List Line) → (key : List ℕ) → (place : ℕ) → List Box
new_box_at lines done key place =
    if slice_index key place == 0 && not (list_any (λ (l : Line). begins (take (place + 1) key) l.stack) done)
    then if_wide (total_of lines) (box_at lines key place) else []

abbrev pub new_boxes : List Line → (done : List Line) → (key : List ℕ) → List Box
new_boxes lines done key = joined_below (length key) (new_box_at lines done key)

-- those of stacks, after others
abbrev pub boxes_after : List Line → (done left : List Line) → List Box
boxes_after lines done [] = []
boxes_after lines done (l ∷ ls) = new_boxes lines done l.stack ++ boxes_after lines (done ++ l ∷ []) ls

-- the box of all stacks, and those of their beginnings
abbrev pub boxes_of : List Line → List Box
boxes_of lines = if_wide (total_of lines) (flame_box (codes "all") 0 0 (total_of lines)) ++ boxes_after lines [] lines
