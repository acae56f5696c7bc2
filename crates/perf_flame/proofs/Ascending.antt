-- Stacks in order, before the pass over them.
use Rattle.std.proofs.Common.{◌≡◌, ℕ, suc, ◌+◌, ◌≤◌, cond, ltb, List, [], ◌∷◌, ◌++◌, length, map, refl, sym, ap, subst, ◌∙◌, append-nil, arith}
use Rattle.std.specs.Global.{Vec}
use Rattle.std.specs.List.Sorted.{IsStrictlySortedBy}
use Rattle.std.specs.Map.{keys_of}
use Rattle.std.specs.Ordering.{is_lt}
use Rattle.std.proofs.lemmas.Bool.Decides.{nat_tests}
use Rattle.std.proofs.lemmas.List.Sums.{sum_by-cons}
use Rattle.std.proofs.lemmas.Map.Keys.{sorted_head, sorted_tail}
use Rattle.perf_flame.specs.Boxes.{Box, boxes_of, if_wide, flame_box}
use Rattle.perf_flame.specs.FoldedLines.{entry_line, key_cmp}
use Rattle.perf_flame.specs.Lines.{Line, total_of}
use Rattle.perf_flame.specs.Scans.{run, shares, scan}
use Rattle.perf_flame.proofs.Begins.{before_is_less}
use Rattle.perf_flame.proofs.Scanning.{Ascends, Context, context_start, scan_after}

run_step : (place share count m n : ℕ) → m ≤ n → (cond (ltb place share) (count + m) 0) ≤ count + n
run_step place share count m n le = grind (arith, nat_tests)

-- a run is worth no more than all
pub run_fits : (place : ℕ) (ns : List ℕ) (ls : List Line) → run place ns ls ≤ total_of ls
run_fits place [] ls = omega arith
run_fits place (n ∷ ns) [] = omega arith
run_fits place (n ∷ ns) (l ∷ ls) =
    let step = run_step place n l.count (run place ns ls) (total_of ls) (run_fits place ns ls) in
    omega (arith, step, sum_by-cons (λ (l : Line). l.count) l ls)

pub length_shares : (last : List ℕ) (ls : List Line) → length (shares last ls) ≡ length ls
length_shares last [] = refl
length_shares last (l ∷ ls) = ap (λ n. suc n) (length_shares l.stack ls)

ascends_after : (k : Vec ℕ) (es : List (Vec ℕ × ℕ)) → IsStrictlySortedBy key_cmp (k ∷ keys_of es) → Ascends k.items (map entry_line es)
ascends_after k [] sorted = tt
ascends_after k (e ∷ es) sorted = (
  sym (before_is_less k.items e.0.items (key_cmp k e.0) refl) ∙ ap is_lt (sorted_head key_cmp k (keys_of (e ∷ es)) sorted).0,
  ascends_after e.0 es (sorted_tail key_cmp k (keys_of (e ∷ es)) sorted),
)

-- all stacks, before the pass
start : (es : List (Vec ℕ × ℕ)) → IsStrictlySortedBy key_cmp (keys_of es) → (l : Line) (ls : List Line) → map entry_line es ≡ l ∷ ls → Context [] [] l.stack × Ascends l.stack ls
start [] sorted l ls is = cc
start (e ∷ es) sorted l ls is =
    let first : entry_line e ≡ l = cc in
    let others : map entry_line es ≡ ls = cc in
    (context_start l.stack, subst (λ (m : Line). Ascends m.stack ls) first (subst (Ascends e.0.items) others (ascends_after e.0 es sorted)))

scan_of_none : (total before : ℕ) (ns : List ℕ) → scan total before ns [] ≡ []
scan_of_none total before [] = refl
scan_of_none total before (n ∷ ns) = refl

-- the pass finds the boxes
pub pass_finds : (es : List (Vec ℕ × ℕ)) (total before : ℕ) (ns left : List ℕ) (rest : List (Vec ℕ × ℕ)) (found : List Box) → IsStrictlySortedBy key_cmp (keys_of es) → total ≡ total_of (map entry_line es)
    → ns ≡ shares [] (map entry_line es) → rest ≡ []
    → found ++ scan total before left (map entry_line rest) ≡ if_wide total (flame_box (97 ∷ 108 ∷ 108 ∷ []) 0 0 total) ++ scan total 0 ns (map entry_line es)
    → found ≡ boxes_of (map entry_line es)
pass_finds es total before ns left rest found sorted all are none made =
    let lines : List Line = map entry_line es in
    let nothing : scan total before left (map entry_line rest) ≡ [] = ap (λ (r : List (Vec ℕ × ℕ)). scan total before left (map entry_line r)) none ∙ scan_of_none total before left in
    sym (append-nil found) ∙ ap (λ bs. found ++ bs) (sym nothing) ∙ made
    ∙ (λ i. if_wide (all i) (flame_box (97 ∷ 108 ∷ 108 ∷ []) 0 0 (all i)) ++ scan (all i) 0 (are i) lines)
    ∙ ap (λ bs. if_wide (total_of lines) (flame_box (97 ∷ 108 ∷ 108 ∷ []) 0 0 (total_of lines)) ++ bs) (scan_after lines [] lines [] refl (start es sorted))
