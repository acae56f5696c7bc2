-- A count that is added to an entry of a map.
use Rattle.std.proofs.Common.{◌≡◌, ℕ, ◌+◌, ◌%◌, ◌^◌, ◌<◌, Bool, cond, List, [], ◌∷◌, map, Some, None, refl, ap, ◌∙◌, Ordering, arith}
use Rattle.std.specs.Prelude.{Option, unwrap_or}
use Rattle.std.specs.BTreeMap.{insert_entry}
use Rattle.std.specs.Cmp.Lexicographic.{slice_cmp, nat_list_cmp_total}
use Rattle.std.specs.Global.{Vec}
use Rattle.std.specs.List.{AllByRecursion}
use Rattle.std.specs.List.Sorted.{IsStrictlySortedBy}
use Rattle.std.specs.Map.{keys_of, lookup}
use Rattle.std.specs.Ordering.{nat_cmp, is_eq, match_ordering}
use Rattle.std.specs.declared.cmp.Ordering.TheVariants as ordering
use Rattle.std.proofs.lemmas.Map.Keys.{sorted_head, sorted_tail}
use Rattle.perf_flame.specs.Lines.{Line, stack_line, add_count}
use Rattle.perf_flame.specs.FoldedLines.{entry_line, key_cmp}

abbrev pub Entries : Type 0
Entries = List (Vec ℕ × ℕ)

-- whether a key is this stack
abbrev pub is_stack : List ℕ → Vec ℕ → Bool
is_stack stack key = is_eq (slice_cmp nat_cmp stack key.items)

abbrev pub added : ℕ → ℕ → ℕ
added v count = (v + count) % 2 ^ 64

-- a count alone
alone : (old count : ℕ) → old ≡ 0 → count < 2 ^ 64 → added old count ≡ count
alone old count none small = omega (arith, none, small)

-- a stack below a key is no later key
none_below : (s : List ℕ) (k : Vec ℕ) (es : Entries) → slice_cmp nat_cmp s k.items ≡ ordering.Less → AllByRecursion (λ y. key_cmp k y ≡ ordering.Less) (keys_of es) → lookup (is_stack s) es ≡ None
none_below s k [] below all = refl
none_below s k (e ∷ es) below all =
    let less = nat_list_cmp_total.trans s k.items e.0.items below all.0 in
    rw less (none_below s k es below all.1)

step : (o : Ordering) (e : Vec ℕ × ℕ) (es : Entries) (k : Vec ℕ) (old count : ℕ) → count < 2 ^ 64
    → (o ≡ ordering.Less → lookup (is_stack k.items) es ≡ None)
    → (old ≡ unwrap_or (lookup (is_stack k.items) es) 0 → map entry_line (insert_entry key_cmp es k (added old count)) ≡ add_count (map entry_line es) k.items count)
    → old ≡ unwrap_or (cond (is_eq o) (Some e.1) (lookup (is_stack k.items) es)) 0
    → map entry_line (match_ordering o ((k, added old count) ∷ e ∷ es) ((e.0, added old count) ∷ es) (e ∷ insert_entry key_cmp es k (added old count)))
    ≡ match_ordering o (stack_line k.items count ∷ map entry_line (e ∷ es)) (stack_line e.0.items (added e.1 count) ∷ map entry_line es) (entry_line e ∷ add_count (map entry_line es) k.items count)
step ordering.Less e es k old count small none rest was =
    ap (λ n. stack_line k.items n ∷ map entry_line (e ∷ es)) (alone old count (was ∙ ap (λ (x : Option ℕ). unwrap_or x 0) (none refl)) small)
step ordering.Equal e es k old count small none rest was = ap (λ n. stack_line e.0.items (added n count) ∷ map entry_line es) was
step ordering.Greater e es k old count small none rest was = ap (λ (ls : List Line). entry_line e ∷ ls) (rest was)

-- a count that is added to that of a stack, which is 0 if it is absent
pub adds : (k : Vec ℕ) (es : Entries) (old count : ℕ) → IsStrictlySortedBy key_cmp (keys_of es) → count < 2 ^ 64 → old ≡ unwrap_or (lookup (is_stack k.items) es) 0
    → map entry_line (insert_entry key_cmp es k (added old count)) ≡ add_count (map entry_line es) k.items count
adds k [] old count sorted small was = ap (λ n. stack_line k.items n ∷ []) (alone old count was small)
adds k (e ∷ es) old count sorted small was =
    step (slice_cmp nat_cmp k.items e.0.items) e es k old count small
    (λ below. none_below k.items e.0 es below (sorted_head key_cmp e.0 (keys_of es) sorted))
    (λ before. adds k es old count (sorted_tail key_cmp e.0 (keys_of es) sorted) small before) was
