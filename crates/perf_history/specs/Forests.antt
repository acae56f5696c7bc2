-- Trees that have a number, or none, at each address, and the branches of which they are made.
use Rattle.std.specs.Prelude.{◌≡◌, ℕ, ◌+◌, ◌<◌, ◌≤◌, ◌==◌, ◌^◌, nat_lt, List, [], ◌∷◌, length, Option, Some, None, if◌then◌else◌}
use Rattle.perf_history.specs.declared.forests.Branch.{Branch}
use Rattle.perf_history.specs.declared.forests.Tree.{Tree}
use Rattle.perf_history.specs.declared.forests.Tree.TheVariants.{Empty, Whole, Split}
use Rattle.perf_history.specs.Ranges.{is_within}

-- how many branches, from the oldest on, a tree needs
abbrev pub reach : Tree → ℕ
reach Empty = 0
reach (Whole number) = 0
reach (Split index) = index + 1

-- what a tree without branches has at each address
abbrev pub number_in : Tree → Option ℕ
number_in Empty = None
number_in (Whole number) = Some number
number_in (Split index) = None

-- what a tree has at an address, by the branches, of which the newest is the first
abbrev pub found : List Branch → Tree → ℕ → Option ℕ
found [] tree address = number_in tree
found (branch ∷ older) tree address =
    if reach tree == length older + 1
    then (if nat_lt address branch.bound then found older branch.lower address else found older branch.upper address)
    else found older tree address

-- the two sides of each branch are older than it
abbrev pub IsForest : List Branch → Type 0
IsForest [] = Unit {0}
IsForest (branch ∷ older) = (reach branch.lower ≤ length older) × (reach branch.upper ≤ length older) × IsForest older

-- there may be more branches, and each tree is as it was
pub record Keeps (old new : List Branch) : Type 0 where
  pub longer : length old ≤ length new
  pub same : (tree : Tree) (address : ℕ) → reach tree ≤ length old → found new tree address ≡ found old tree address

-- a new tree is a lower tree below a bound, and an upper one from there on
pub record Joins (old new : List Branch) (lower : Tree) (bound : ℕ) (upper tree : Tree) : Type 0 where
  pub inside : reach tree ≤ length new
  pub value : (address : ℕ) → found new tree address ≡ (if nat_lt address bound then found old lower address else found old upper address)

-- a tree is that of a branch
pub record IsBranch (branches : List Branch) (tree : Tree) (branch : Branch) : Type 0 where
  pub lower : reach branch.lower < reach tree
  pub upper : reach branch.upper < reach tree
  pub value : (address : ℕ) → found branches tree address ≡ (if nat_lt address branch.bound then found branches branch.lower address else found branches branch.upper address)

-- a new tree is as another everywhere
pub record IsLike (old new : List Branch) (from to : Tree) : Type 0 where
  pub inside : reach to ≤ length new
  pub value : (address : ℕ) → found new to address ≡ found old from address

-- below a bound
pub record IsLikeBelow (bound : ℕ) (old new : List Branch) (from to : Tree) : Type 0 where
  pub inside : reach to ≤ length new
  pub value : (address : ℕ) → address < bound → found new to address ≡ found old from address

-- from a bound on
pub record IsLikeFrom (bound : ℕ) (old new : List Branch) (from to : Tree) : Type 0 where
  pub inside : reach to ≤ length new
  pub value : (address : ℕ) → bound ≤ address → found new to address ≡ found old from address

-- a new tree is a front up to an end, and another tree after it
pub record EndsAt (end : ℕ) (old new : List Branch) (front tree to : Tree) : Type 0 where
  pub inside : reach to ≤ length new
  pub value : (address : ℕ) → address < 2 ^ 64 → found new to address ≡ (if nat_lt address end then found old front address else found old tree address)

-- a new tree has a number, or none, in a range, and is as another outside it
pub record Assigns (start len : ℕ) (number : Option ℕ) (old new : List Branch) (from to : Tree) : Type 0 where
  pub inside : reach to ≤ length new
  pub value : (address : ℕ) → address < 2 ^ 64 → found new to address ≡ (if is_within start len address then number else found old from address)
