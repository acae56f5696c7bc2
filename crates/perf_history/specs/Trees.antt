-- The tree of an address space.
use Rattle.std.specs.Prelude.{ℕ, unwrap_or}
use Rattle.std.specs.BTreeMap.{BTreeMap, get}
use Rattle.std.specs.Ordering.{nat_cmp}
use Rattle.perf_history.specs.declared.forests.Tree.{Tree}
use Rattle.perf_history.specs.declared.forests.Tree.TheVariants.{Empty}

-- the tree of an address space, which is empty if there is none
abbrev pub tree_in : BTreeMap ℕ Tree → ℕ → Tree
tree_in trees space = unwrap_or (get nat_cmp trees space) Empty
