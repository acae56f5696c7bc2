-- The lines of counts that are added one after another.
use Rattle.std.proofs.Common.{◌≡◌, ℕ, ◌+◌, ◌%◌, ◌^◌, ◌<◌, Bool, true, false, cond, ◌||◌, List, [], ◌∷◌, map, Ordering, Option, Some, None, refl, sym, ap, subst, ◌∙◌, arith}
use Rattle.std.specs.Cmp.Lexicographic.{slice_cmp, nat_list_cmp_total}
use Rattle.std.specs.List.{All, AllByRecursion, list_any}
use Rattle.std.specs.List.Sorted.{IsStrictlySortedBy}
use Rattle.std.specs.Option.{option_map_or, IfSome}
use Rattle.std.specs.Ordering.{nat_cmp, is_eq, match_ordering}
use Rattle.std.specs.declared.cmp.Ordering.TheVariants as ordering
use Rattle.std.proofs.lemmas.Bool.{true≢false}
use Rattle.std.proofs.lemmas.Cmp.{tied_itself, alike_right}
use Rattle.std.proofs.lemmas.List.Elements.{All-head, All-tail}
use Rattle.std.proofs.lemmas.List.Sums.{sum_by-cons}
use Rattle.perf_flame.specs.Laws.{is_same, count_of, sum_of}
use Rattle.perf_flame.specs.Lines.{Line, stack_line, add_count, add_lines}
use Rattle.perf_flame.proofs.Merging.{cmp, added, same_stack, back}

abbrev placed : Ordering → List ℕ → ℕ → Line → List Line → List Line
placed o s n l ls = match_ordering o (stack_line s n ∷ l ∷ ls) (stack_line l.stack (added l.count n) ∷ ls) (l ∷ add_count ls s n)

abbrev stacks_of : List Line → List (List ℕ)
stacks_of ls = map (λ (l : Line). l.stack) ls

-- ---- lines in order

-- a stack is below those of all lines
abbrev AllAbove : List ℕ → List Line → Type 0
AllAbove k [] = Unit {0}
AllAbove k (l ∷ ls) = (cmp k l.stack ≡ ordering.Less) × AllAbove k ls

abbrev Ascend : List Line → Type 0
Ascend [] = Unit {0}
Ascend (l ∷ ls) = AllAbove l.stack ls × Ascend ls

above_all : (k t : List ℕ) (ls : List Line) → cmp k t ≡ ordering.Less → AllAbove t ls → AllAbove k ls
above_all k t [] less all = tt
above_all k t (l ∷ ls) less all = (nat_list_cmp_total.trans k t l.stack less all.0, above_all k t ls less all.1)

above_step : (o : Ordering) (k s : List ℕ) (n : ℕ) (l : Line) (ls : List Line) → cmp k s ≡ ordering.Less → AllAbove k (l ∷ ls) → AllAbove k (add_count ls s n) → AllAbove k (placed o s n l ls)
above_step ordering.Less k s n l ls less all rest = (less, all)
above_step ordering.Equal k s n l ls less all rest = (all.0, all.1)
above_step ordering.Greater k s n l ls less all rest = (all.0, rest)

above_add : (k s : List ℕ) (n : ℕ) (ls : List Line) → cmp k s ≡ ordering.Less → AllAbove k ls → AllAbove k (add_count ls s n)
above_add k s n [] less all = (less, tt)
above_add k s n (l ∷ ls) less all = above_step (cmp s l.stack) k s n l ls less all (above_add k s n ls less all.1)

ascend_step : (o : Ordering) (s : List ℕ) (n : ℕ) (l : Line) (ls : List Line) → cmp s l.stack ≡ o → Ascend (l ∷ ls) → Ascend (add_count ls s n) → Ascend (placed o s n l ls)
ascend_step ordering.Less s n l ls is up rest = ((is, above_all s l.stack ls is up.0), up)
ascend_step ordering.Equal s n l ls is up rest = (up.0, up.1)
ascend_step ordering.Greater s n l ls is up rest = (above_add l.stack s n ls (back s l.stack ordering.Greater is) up.0, rest)

ascend_add : (s : List ℕ) (n : ℕ) (ls : List Line) → Ascend ls → Ascend (add_count ls s n)
ascend_add s n [] up = (tt, tt)
ascend_add s n (l ∷ ls) up = ascend_step (cmp s l.stack) s n l ls refl up (ascend_add s n ls up.1)

ascend_lines : (xs ls : List Line) → Ascend ls → Ascend (add_lines ls xs)
ascend_lines [] ls up = up
ascend_lines (x ∷ xs) ls up = ascend_lines xs (add_count ls x.stack x.count) (ascend_add x.stack x.count ls up)

sorted_above : (k : List ℕ) (ls : List Line) → AllAbove k ls → AllByRecursion (λ y. cmp k y ≡ ordering.Less) (stacks_of ls)
sorted_above k [] all = tt
sorted_above k (l ∷ ls) all = (all.0, sorted_above k ls all.1)

sorted_from_ascend : (ls : List Line) → Ascend ls → IsStrictlySortedBy (slice_cmp nat_cmp) (stacks_of ls)
unfolding IsStrictlySortedBy
sorted_from_ascend [] up = tt
sorted_from_ascend (l ∷ ls) up = (sorted_above l.stack ls up.0, sorted_from_ascend ls up.1)

pub lines_ascend : (additions : List Line) → IsStrictlySortedBy (slice_cmp nat_cmp) (stacks_of (add_lines [] additions))
lines_ascend additions = sorted_from_ascend (add_lines [] additions) (ascend_lines additions [] tt)

-- ---- the count of a stack

none_above : (s t : List ℕ) (ls : List Line) → cmp s t ≡ ordering.Less → AllAbove t ls → count_of s ls ≡ None
none_above s t [] less all = refl
none_above s t (l ∷ ls) less all =
    ap (λ o. cond (is_eq o) (Some l.count) (count_of s ls)) (nat_list_cmp_total.trans s t l.stack less all.0)
    ∙ none_above s t ls less all.1

-- the count of a stack after one more addition for it
abbrev after : Option ℕ → ℕ → Option ℕ
after o n = Some (option_map_or (λ c. added c n) o n)

same_is : (q s : List ℕ) → is_same q s ≡ true → q ≡ s
same_is q s h = by_order (cmp q s) refl h
  where
    by_order : (o : Ordering) → cmp q s ≡ o → is_eq o ≡ true → q ≡ s
    by_order ordering.Less is h = absurd (true≢false (sym h))
    by_order ordering.Equal is h = same_stack q s is
    by_order ordering.Greater is h = absurd (true≢false (sym h))

twice_cond : {X : Type 0} (b : Bool) (x y z : X) → cond b x z ≡ cond b x (cond b y z)
twice_cond true x y z = refl
twice_cond false x y z = refl

swap_cond : {X : Type 0} (a b : Bool) (x y z : X) → (a ≡ true → b ≡ true → false ≡ true) → cond a x (cond b y z) ≡ cond b y (cond a x z)
swap_cond true true x y z apart = absurd (true≢false (sym (apart refl refl)))
swap_cond true false x y z apart = refl
swap_cond false b x y z apart = refl

count_step : (o : Ordering) (q s : List ℕ) (n : ℕ) (l : Line) (ls : List Line) → cmp s l.stack ≡ o → AllAbove l.stack ls
    → count_of q (add_count ls s n) ≡ cond (is_same q s) (after (count_of s ls) n) (count_of q ls)
    → count_of q (placed o s n l ls) ≡ cond (is_same q s) (after (cond (is_eq o) (Some l.count) (count_of s ls)) n) (cond (is_same q l.stack) (Some l.count) (count_of q ls))
count_step ordering.Less q s n l ls is all rest =
    ap (λ o. cond (is_same q s) (after o n) (cond (is_same q l.stack) (Some l.count) (count_of q ls))) (sym (none_above s l.stack ls is all))
count_step ordering.Equal q s n l ls is all rest =
    twice_cond (is_same q l.stack) (Some (added l.count n)) (Some l.count) (count_of q ls)
    ∙ ap (λ o. cond (is_eq o) (Some (added l.count n)) (cond (is_same q l.stack) (Some l.count) (count_of q ls))) (sym (alike_right nat_list_cmp_total s l.stack q is))
count_step ordering.Greater q s n l ls is all rest =
    ap (λ o. cond (is_same q l.stack) (Some l.count) o) rest
    ∙ swap_cond (is_same q l.stack) (is_same q s) (Some l.count) (after (count_of s ls) n) (count_of q ls)
    (λ a b. ap is_eq (sym is ∙ ap (λ k. cmp k l.stack) (sym (same_is q s b)) ∙ ap (cmp q) (sym (same_is q l.stack a)) ∙ tied_itself nat_list_cmp_total q))

count_add : (q s : List ℕ) (n : ℕ) (ls : List Line) → Ascend ls → count_of q (add_count ls s n) ≡ cond (is_same q s) (after (count_of s ls) n) (count_of q ls)
count_add q s n [] up = refl
count_add q s n (l ∷ ls) up = count_step (cmp s l.stack) q s n l ls refl up.0 (count_add q s n ls up.1)

-- what the count of a stack becomes
abbrev becomes : List ℕ → Option ℕ → List Line → Option ℕ
becomes q o xs = option_map_or (λ c. Some ((c + sum_of q xs) % 2 ^ 64)) o (cond (list_any (λ (l : Line). is_same q l.stack) xs) (Some (sum_of q xs % 2 ^ 64)) None)

sum_cons : (q : List ℕ) (l : Line) (ls : List Line) → sum_of q (l ∷ ls) ≡ (cond (is_same q l.stack) l.count 0) + sum_of q ls
sum_cons q l ls = sum_by-cons (λ (l : Line). cond (is_same q l.stack) l.count 0) l ls

becomes_step : (b any : Bool) (o : Option ℕ) (n rest all : ℕ) → all ≡ (cond b n 0) + rest
    → option_map_or (λ c. Some ((c + rest) % 2 ^ 64)) (cond b (after o n) o) (cond any (Some (rest % 2 ^ 64)) None)
    ≡ option_map_or (λ c. Some ((c + all) % 2 ^ 64)) o (cond (b || any) (Some (all % 2 ^ 64)) None)
becomes_step true any None n rest all is = ap (λ k. Some k) (omega (arith, is))
becomes_step true any (Some c) n rest all is = ap (λ k. Some k) (omega (arith, is))
becomes_step false any None n rest all is = let same : rest ≡ all = omega (arith, is) in ap (λ k. cond any (Some (k % 2 ^ 64)) None) same
becomes_step false any (Some c) n rest all is = ap (λ k. Some k) (omega (arith, is))

fits_end : (o : Option ℕ) → IfSome o (λ c. c < 2 ^ 64) → o ≡ option_map_or (λ c. Some ((c + 0) % 2 ^ 64)) o None
fits_end None fits = refl
fits_end (Some c) fits = ap (λ k. Some k) (omega (arith, fits))

fits_step : (b : Bool) (o p : Option ℕ) (n : ℕ) → n < 2 ^ 64 → IfSome o (λ c. c < 2 ^ 64) → IfSome (cond b (after p n) o) (λ c. c < 2 ^ 64)
fits_step true o None n small fits = small
fits_step true o (Some c) n small fits = omega arith
fits_step false o p n small fits = fits

alike : (b : Bool) (q s : List ℕ) (ls : List Line) (n : ℕ) → b ≡ is_same q s → cond b (after (count_of s ls) n) (count_of q ls) ≡ cond b (after (count_of q ls) n) (count_of q ls)
alike true q s ls n is = ap (λ (k : List ℕ). after (count_of k ls) n) (sym (same_is q s (sym is)))
alike false q s ls n is = refl

count_lines : (q : List ℕ) (xs ls : List Line) → All (λ (l : Line). l.count < 2 ^ 64) xs → Ascend ls → IfSome (count_of q ls) (λ c. c < 2 ^ 64) → count_of q (add_lines ls xs) ≡ becomes q (count_of q ls) xs
count_lines q [] ls small up fits = fits_end (count_of q ls) fits
count_lines q (x ∷ xs) ls small up fits =
    let first : x.count < 2 ^ 64 = All-head (λ (l : Line). l.count < 2 ^ 64) x xs small in
    let now : count_of q (add_count ls x.stack x.count) ≡ cond (is_same q x.stack) (after (count_of q ls) x.count) (count_of q ls) =
    count_add q x.stack x.count ls up ∙ alike (is_same q x.stack) q x.stack ls x.count refl in
    let kept : IfSome (count_of q (add_count ls x.stack x.count)) (λ c. c < 2 ^ 64) =
    subst (λ (o : Option ℕ). IfSome o (λ c. c < 2 ^ 64)) (sym now) (fits_step (is_same q x.stack) (count_of q ls) (count_of q ls) x.count first fits) in
    count_lines q xs (add_count ls x.stack x.count) (All-tail (λ (l : Line). l.count < 2 ^ 64) x xs small) (ascend_add x.stack x.count ls up) kept
    ∙ ap (λ (o : Option ℕ). becomes q o xs) now
    ∙ becomes_step (is_same q x.stack) (list_any (λ (l : Line). is_same q l.stack) xs) (count_of q ls) x.count (sum_of q xs) (sum_of q (x ∷ xs)) (sum_cons q x xs)

pub lines_are_sums : (stack : List ℕ) (additions : List Line) → All (λ (l : Line). l.count < 2 ^ 64) additions
    → count_of stack (add_lines [] additions) ≡ cond (list_any (λ (l : Line). is_same stack l.stack) additions) (Some (sum_of stack additions % 2 ^ 64)) None
lines_are_sums stack additions small = count_lines stack additions [] small tt tt
