-- What is where in each address space.
use Rattle.std.specs.Prelude.{◌≡◌, ℕ, Option}
use Rattle.perf_history.specs.Forests.{found}
use Rattle.perf_history.specs.Trees.{tree_in}
use Rattle.perf_history.specs.declared.spaces.Spaces.{Spaces}

-- what an address space has at an address
abbrev pub number_at : Spaces → (space address : ℕ) → Option ℕ
number_at spaces space address = found spaces.forest (tree_in spaces.trees space) address

-- nothing has changed
abbrev pub IsAs : (old new : Spaces) → Type 0
IsAs old new = (space address : ℕ) → number_at new space address ≡ number_at old space address
