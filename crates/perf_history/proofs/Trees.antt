-- What trees have at an address.
use Rattle.std.proofs.Common.{◌≡◌, ◌∙◌, sym, ap, ap₂, subst, ℕ, zero, suc, ◌+◌, ◌-◌, ◌<◌, ◌≤◌, nat_lt, cond, List, [], ◌∷◌, length, reverse, get_or, Option, None, arith, refl}
use Rattle.std.proofs.lemmas.Bool.Decides.{nat_tests}
use Rattle.std.proofs.lemmas.List.{reverse-reverse, get_or-reverse}
use Rattle.perf_history.specs.declared.forests.Branch.{Branch}
use Rattle.perf_history.specs.declared.forests.Tree.{Tree}
use Rattle.perf_history.specs.declared.forests.Tree.TheVariants.{Empty, Whole, Split}
use Rattle.perf_history.specs.Ranges.{is_within}
use Rattle.perf_history.specs.Forests.{reach, found, number_in, IsForest, Keeps, Joins, IsBranch, IsLikeBelow, EndsAt, Assigns}

-- a branch that no tree needs changes none
extended : (branch : Branch) (older : List Branch) (tree : Tree) (a : ℕ) → reach tree ≤ length older → found (branch ∷ older) tree a ≡ found older tree a
extended branch older tree a h = grind (arith, nat_tests)

-- the newest branch
newest : (branch : Branch) (older : List Branch) (i a : ℕ) → i ≡ length older → found (branch ∷ older) (Split i) a ≡ cond (nat_lt a branch.bound) (found older branch.lower a) (found older branch.upper a)
newest branch older i a e = grind (arith, nat_tests)

is_newest : (branch : Branch) (older : List Branch) (i : ℕ) → i ≡ length older → reach branch.lower ≤ length older → reach branch.upper ≤ length older → IsBranch (branch ∷ older) (Split i) branch
is_newest branch older i e l u = record {
  lower = omega arith;
  upper = omega arith;
  value = λ a. newest branch older i a e ∙ rw (extended branch older branch.lower a l, extended branch older branch.upper a u) refl;
}

-- what holds among older branches holds among all
still : (branch : Branch) (older : List Branch) (i : ℕ) (b : Branch) → i < length older → IsBranch older (Split i) b → IsBranch (branch ∷ older) (Split i) b
still branch older i b lt h = record {
  lower = h.lower;
  upper = h.upper;
  value = λ a. rw (extended branch older (Split i) a (omega arith), extended branch older b.lower a (omega (arith, h.lower)), extended branch older b.upper a (omega (arith, h.upper))) (h.value a);
}

-- the branch with an index, which is k places after the newest
branch_at : (branches : List Branch) (k i : ℕ) (d b : Branch) → IsForest branches → k + i + 1 ≡ length branches → get_or branches k d ≡ b → IsBranch branches (Split i) b
branch_at [] k i d b f e g = absurd (omega arith)
branch_at (branch ∷ older) zero i d b f e g = subst (λ c. IsBranch (branch ∷ older) (Split i) c) g (is_newest branch older i (omega arith) f.0 f.1)
branch_at (branch ∷ older) (suc k) i d b f e g = still branch older i b (omega arith) (branch_at older k i d b f.2 (omega arith) g)

pub branch_in : (items branches : List Branch) (i : ℕ) (b : Branch) → reverse items ≡ branches → IsForest (reverse items) → i < length branches → b ≡ get_or items i b → IsBranch branches (Split i) b
branch_in items branches i b e f lt g =
    branch_at branches (length branches - 1 - i) i b b (subst IsForest e f) (omega arith)
    (sym (get_or-reverse branches i b lt) ∙ ap (λ xs. get_or xs i b) (sym (ap reverse e) ∙ reverse-reverse items) ∙ sym g)

pub found_leaf : (branches : List Branch) (tree : Tree) (a : ℕ) → reach tree ≡ 0 → found branches tree a ≡ number_in tree
found_leaf [] tree a e = refl
found_leaf (branch ∷ older) tree a e = extended branch older tree a (omega arith) ∙ found_leaf older tree a e

pub found_empty : (branches : List Branch) (a : ℕ) → found branches Empty a ≡ None
found_empty branches a = found_leaf branches Empty a refl

-- a tree that is neither split nor one number
pub found_none : (branches : List Branch) (tree : Tree) (a : ℕ) → ((x : ℕ) → tree ≡ Split x → ⊥) → ((x : ℕ) → tree ≡ Whole x → ⊥) → found branches tree a ≡ None
found_none branches Empty a s w = found_empty branches a
found_none branches (Whole n) a s w = absurd (w n refl)
found_none branches (Split i) a s w = absurd (s i refl)

-- two tests make a range
both_sides : {X : Type 0} (a start len : ℕ) (x y z : X) → (a < start → x ≡ z) → cond (nat_lt a start) x (cond (nat_lt a (start + len)) y z) ≡ cond (is_within start len a) y z
both_sides a start len x y z h = grind (arith, nat_tests)

pub assigned : (first second third fourth : List Branch) (tree leaf front back to : Tree) (start len : ℕ) (number : Option ℕ) → reach tree ≤ length first → reach leaf ≡ 0 → number_in leaf ≡ number → Keeps first second → IsLikeBelow start first second tree front → Keeps second third → EndsAt (start + len) second third leaf tree back → Joins third fourth front start back to → Assigns start len number first fourth tree to
assigned first second third fourth tree leaf front back to start len number h none is k f k' e j = record {
  inside = j.inside;
  value = λ a lt.
      j.value a
      ∙ ap₂ (λ v w. cond (nat_lt a start) v w) (k'.same front a f.inside) (e.value a lt)
      ∙ ap₂ (λ v w. cond (nat_lt a start) (found second front a) (cond (nat_lt a (start + len)) v w)) (found_leaf second leaf a none ∙ is) (k.same tree a h)
      ∙ both_sides a start len (found second front a) number (found first tree a) (f.value a);
}
