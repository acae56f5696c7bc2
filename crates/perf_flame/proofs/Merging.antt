-- Lines that are added in another order, or added up before.
use Rattle.std.proofs.Common.{◌≡◌, ℕ, ◌+◌, ◌%◌, ◌^◌, List, [], ◌∷◌, Ordering, refl, sym, ap, ◌∙◌, arith}
use Rattle.std.specs.Cmp.Lexicographic.{slice_cmp, nat_list_cmp_total}
use Rattle.std.specs.Ordering.{nat_cmp, match_ordering, ordering_reverse}
use Rattle.std.specs.declared.cmp.Ordering.TheVariants as ordering
use Rattle.std.proofs.lemmas.Cmp.{tied_itself, alike_right}
use Rattle.std.proofs.lemmas.Map.Lookups.{exact_bytes}
use Rattle.std.proofs.lemmas.List.Sums.{sum_by-cons}
use Rattle.perf_flame.specs.Lines.{Line, stack_line, add_count, add_lines, total_of}

abbrev pub cmp : List ℕ → List ℕ → Ordering
cmp a b = slice_cmp nat_cmp a b

abbrev pub added : ℕ → ℕ → ℕ
added a b = (a + b) % 2 ^ 64

added_swap : (c m n : ℕ) → added (added c m) n ≡ added (added c n) m
added_swap c m n = omega arith

added_twice : (c m n : ℕ) → added c (added m n) ≡ added (added c m) n
added_twice c m n = omega arith

added_flip : (m n : ℕ) → added m n ≡ added n m
added_flip m n = omega arith

pub same_stack : (a b : List ℕ) → cmp a b ≡ ordering.Equal → a ≡ b
same_stack a b is = exact_bytes a b is

pub back : (a b : List ℕ) (o : Ordering) → cmp a b ≡ o → cmp b a ≡ ordering_reverse o
back a b o is = nat_list_cmp_total.antisymm b a ∙ ap ordering_reverse is

itself : (a : List ℕ) → cmp a a ≡ ordering.Equal
itself a = tied_itself nat_list_cmp_total a

-- ---- two counts, in either order

-- lines with a count that is added, by how its stack compares to that of the first
abbrev placed : Ordering → List ℕ → ℕ → Line → List Line → List Line
placed o s n l ls = match_ordering o (stack_line s n ∷ l ∷ ls) (stack_line l.stack (added l.count n) ∷ ls) (l ∷ add_count ls s n)

module _ (s t : List ℕ) (m n : ℕ) where
  none_yet : (d : Ordering) → cmp s t ≡ d
      → match_ordering (ordering_reverse d) (stack_line t n ∷ stack_line s m ∷ []) (stack_line s (added m n) ∷ []) (stack_line s m ∷ stack_line t n ∷ [])
      ≡ match_ordering d (stack_line s m ∷ stack_line t n ∷ []) (stack_line t (added n m) ∷ []) (stack_line t n ∷ stack_line s m ∷ [])
  none_yet ordering.Less d = refl
  none_yet ordering.Equal d = λ i. stack_line (same_stack s t d i) (added_flip m n i) ∷ []
  none_yet ordering.Greater d = refl

  module _ (l : Line) (ls : List Line) where
    both_less : (d : Ordering) → cmp s t ≡ d → cmp s l.stack ≡ ordering.Less → cmp t l.stack ≡ ordering.Less
        → match_ordering (ordering_reverse d) (stack_line t n ∷ stack_line s m ∷ l ∷ ls) (stack_line s (added m n) ∷ l ∷ ls) (stack_line s m ∷ add_count (l ∷ ls) t n)
        ≡ match_ordering d (stack_line s m ∷ stack_line t n ∷ l ∷ ls) (stack_line t (added n m) ∷ l ∷ ls) (stack_line t n ∷ add_count (l ∷ ls) s m)
    both_less ordering.Less d a b = ap (λ o. stack_line s m ∷ placed o t n l ls) b
    both_less ordering.Equal d a b = λ i. stack_line (same_stack s t d i) (added_flip m n i) ∷ l ∷ ls
    both_less ordering.Greater d a b = sym (ap (λ o. stack_line t n ∷ placed o s m l ls) a)

    -- the first is below the second
    below : cmp t s ≡ ordering.Greater → add_count (stack_line s m ∷ l ∷ ls) t n ≡ stack_line s m ∷ add_count (l ∷ ls) t n
    below h = ap (λ o. match_ordering o (stack_line t n ∷ stack_line s m ∷ l ∷ ls) (stack_line s (added m n) ∷ l ∷ ls) (stack_line s m ∷ add_count (l ∷ ls) t n)) h

    less_equal : cmp s l.stack ≡ ordering.Less → cmp t l.stack ≡ ordering.Equal → add_count (placed ordering.Less s m l ls) t n ≡ add_count (placed ordering.Equal t n l ls) s m
    less_equal a b =
        let less : cmp s t ≡ ordering.Less = alike_right nat_list_cmp_total t l.stack s b ∙ a in
        below (back s t ordering.Less less) ∙ ap (λ o. stack_line s m ∷ placed o t n l ls) b
        ∙ sym (ap (λ o. placed o s m (stack_line l.stack (added l.count n)) ls) a)

    less_greater : cmp s l.stack ≡ ordering.Less → cmp t l.stack ≡ ordering.Greater → add_count (placed ordering.Less s m l ls) t n ≡ add_count (placed ordering.Greater t n l ls) s m
    less_greater a b =
        let less : cmp s t ≡ ordering.Less = nat_list_cmp_total.trans s l.stack t a (back t l.stack ordering.Greater b) in
        below (back s t ordering.Less less) ∙ ap (λ o. stack_line s m ∷ placed o t n l ls) b
        ∙ sym (ap (λ o. placed o s m l (add_count ls t n)) a)

    equal_greater : cmp s l.stack ≡ ordering.Equal → cmp t l.stack ≡ ordering.Greater → add_count (placed ordering.Equal s m l ls) t n ≡ add_count (placed ordering.Greater t n l ls) s m
    equal_greater a b =
        ap (λ o. placed o t n (stack_line l.stack (added l.count m)) ls) b ∙ sym (ap (λ o. placed o s m l (add_count ls t n)) a)

both : (s t : List ℕ) (m n : ℕ) (l : Line) (ls : List Line) (a b : Ordering) → cmp s l.stack ≡ a → cmp t l.stack ≡ b
    → add_count (add_count ls s m) t n ≡ add_count (add_count ls t n) s m → add_count (placed a s m l ls) t n ≡ add_count (placed b t n l ls) s m
both s t m n l ls ordering.Less ordering.Less a b rest =
    ap (λ o. match_ordering o (stack_line t n ∷ stack_line s m ∷ l ∷ ls) (stack_line s (added m n) ∷ l ∷ ls) (stack_line s m ∷ add_count (l ∷ ls) t n)) (nat_list_cmp_total.antisymm t s)
    ∙ both_less s t m n l ls (cmp s t) refl a b
both s t m n l ls ordering.Less ordering.Equal a b rest = less_equal s t m n l ls a b
both s t m n l ls ordering.Less ordering.Greater a b rest = less_greater s t m n l ls a b
both s t m n l ls ordering.Equal ordering.Less a b rest = sym (less_equal t s n m l ls b a)
both s t m n l ls ordering.Equal ordering.Equal a b rest =
    ap (λ o. placed o t n (stack_line l.stack (added l.count m)) ls) b
    ∙ ap (λ c. stack_line l.stack c ∷ ls) (added_swap l.count m n)
    ∙ sym (ap (λ o. placed o s m (stack_line l.stack (added l.count n)) ls) a)
both s t m n l ls ordering.Equal ordering.Greater a b rest = equal_greater s t m n l ls a b
both s t m n l ls ordering.Greater ordering.Less a b rest = sym (less_greater t s n m l ls b a)
both s t m n l ls ordering.Greater ordering.Equal a b rest = sym (equal_greater t s n m l ls b a)
both s t m n l ls ordering.Greater ordering.Greater a b rest =
    ap (λ o. placed o t n l (add_count ls s m)) b ∙ ap (λ (ks : List Line). l ∷ ks) rest ∙ sym (ap (λ o. placed o s m l (add_count ls t n)) a)

commute : (ls : List Line) (s t : List ℕ) (m n : ℕ) → add_count (add_count ls s m) t n ≡ add_count (add_count ls t n) s m
commute [] s t m n =
    ap (λ o. match_ordering o (stack_line t n ∷ stack_line s m ∷ []) (stack_line s (added m n) ∷ []) (stack_line s m ∷ stack_line t n ∷ [])) (nat_list_cmp_total.antisymm t s)
    ∙ none_yet s t m n (cmp s t) refl
commute (l ∷ ls) s t m n = both s t m n l ls (cmp s l.stack) (cmp t l.stack) refl refl (commute ls s t m n)

-- a count that is added before others may be added after them
pub past : (ys : List Line) (ls : List Line) (s : List ℕ) (n : ℕ) → add_lines (add_count ls s n) ys ≡ add_count (add_lines ls ys) s n
past [] ls s n = refl
past (y ∷ ys) ls s n = ap (λ (ks : List Line). add_lines ks ys) (commute ls s y.stack n y.count) ∙ past ys (add_count ls y.stack y.count) s n

pub order_is_free : (lines first second : List Line) → add_lines (add_lines lines first) second ≡ add_lines (add_lines lines second) first
order_is_free lines [] second = refl
order_is_free lines (x ∷ xs) second =
    order_is_free (add_count lines x.stack x.count) xs second ∙ ap (λ (ks : List Line). add_lines ks xs) (past second lines x.stack x.count)

-- ---- counts that are added up before

twice_step : (a : Ordering) (l : Line) (ls : List Line) (s : List ℕ) (m n : ℕ) → cmp s l.stack ≡ a → add_count ls s (added m n) ≡ add_count (add_count ls s m) s n
    → placed a s (added m n) l ls ≡ add_count (placed a s m l ls) s n
twice_step ordering.Less l ls s m n a rest =
    sym (ap (λ o. match_ordering o (stack_line s n ∷ stack_line s m ∷ l ∷ ls) (stack_line s (added m n) ∷ l ∷ ls) (stack_line s m ∷ add_count (l ∷ ls) s n)) (itself s))
twice_step ordering.Equal l ls s m n a rest =
    ap (λ c. stack_line l.stack c ∷ ls) (added_twice l.count m n) ∙ sym (ap (λ o. placed o s n (stack_line l.stack (added l.count m)) ls) a)
twice_step ordering.Greater l ls s m n a rest =
    ap (λ (ks : List Line). l ∷ ks) rest ∙ sym (ap (λ o. placed o s n l (add_count ls s m)) a)

pub twice : (ls : List Line) (s : List ℕ) (m n : ℕ) → add_count ls s (added m n) ≡ add_count (add_count ls s m) s n
twice [] s m n = sym (ap (λ o. match_ordering o (stack_line s n ∷ stack_line s m ∷ []) (stack_line s (added m n) ∷ []) (stack_line s m ∷ stack_line s n ∷ [])) (itself s))
twice (l ∷ ls) s m n = twice_step (cmp s l.stack) l ls s m n refl (twice ls s m n)

group_step : (o : Ordering) (f : Line) (fs ls : List Line) (s : List ℕ) (n : ℕ) → cmp s f.stack ≡ o
    → add_lines (add_count ls f.stack f.count) (add_count fs s n) ≡ add_count (add_lines (add_count ls f.stack f.count) fs) s n
    → add_lines ls (placed o s n f fs) ≡ add_count (add_lines ls (f ∷ fs)) s n
group_step ordering.Less f fs ls s n is rest = past (f ∷ fs) ls s n
group_step ordering.Equal f fs ls s n is rest =
    ap (λ (ks : List Line). add_lines ks fs) (twice ls f.stack f.count n)
    ∙ past fs (add_count ls f.stack f.count) f.stack n
    ∙ ap (λ (stack : List ℕ). add_count (add_lines (add_count ls f.stack f.count) fs) stack n) (sym (same_stack s f.stack is))
group_step ordering.Greater f fs ls s n is rest = rest

group : (fs ls : List Line) (s : List ℕ) (n : ℕ) → add_lines ls (add_count fs s n) ≡ add_count (add_lines ls fs) s n
group [] ls s n = refl
group (f ∷ fs) ls s n = group_step (cmp s f.stack) f fs ls s n refl (group fs (add_count ls f.stack f.count) s n)

pub grouping_is_free : (lines first second : List Line) → add_lines lines (add_lines first second) ≡ add_lines (add_lines lines first) second
grouping_is_free lines first [] = refl
grouping_is_free lines first (x ∷ xs) =
    grouping_is_free lines (add_count first x.stack x.count) xs ∙ ap (λ (ks : List Line). add_lines ks xs) (group first lines x.stack x.count)

-- ---- the sum of all counts

total_cons : (l : Line) (ls : List Line) → total_of (l ∷ ls) ≡ l.count + total_of ls
total_cons l ls = sum_by-cons (λ (l : Line). l.count) l ls

total_step : (o : Ordering) (l : Line) (ls : List Line) (s : List ℕ) (n : ℕ) → total_of (add_count ls s n) % 2 ^ 64 ≡ (total_of ls + n) % 2 ^ 64
    → total_of (placed o s n l ls) % 2 ^ 64 ≡ (total_of (l ∷ ls) + n) % 2 ^ 64
total_step ordering.Less l ls s n rest = omega (arith, total_cons (stack_line s n) (l ∷ ls))
total_step ordering.Equal l ls s n rest = omega (arith, total_cons (stack_line l.stack (added l.count n)) ls, total_cons l ls)
total_step ordering.Greater l ls s n rest = omega (arith, total_cons l (add_count ls s n), total_cons l ls, rest)

total_add : (ls : List Line) (s : List ℕ) (n : ℕ) → total_of (add_count ls s n) % 2 ^ 64 ≡ (total_of ls + n) % 2 ^ 64
total_add [] s n = omega (arith, total_cons (stack_line s n) [])
total_add (l ∷ ls) s n = total_step (cmp s l.stack) l ls s n (total_add ls s n)

total_lines : (ls xs : List Line) → total_of (add_lines ls xs) % 2 ^ 64 ≡ (total_of ls + total_of xs) % 2 ^ 64
total_lines ls [] = ap (λ n. n % 2 ^ 64) (omega arith)
total_lines ls (x ∷ xs) =
    let one = total_add ls x.stack x.count in
    let rest = total_lines (add_count ls x.stack x.count) xs in
    omega (arith, one, rest, total_cons x xs)

pub total_is_kept : (additions : List Line) → total_of (add_lines [] additions) % 2 ^ 64 ≡ total_of additions % 2 ^ 64
total_is_kept additions = total_lines [] additions ∙ ap (λ n. n % 2 ^ 64) (omega arith)
