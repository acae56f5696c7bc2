-- What a refusal says.
use Rattle.std.specs.Prelude.{ℕ, List, ◌++◌, codes, decimal}
use Rattle.perf_flame.specs.declared.error.FlameError.{FlameError}
use Rattle.perf_flame.specs.declared.error.FlameError.TheVariants as flames
use Rattle.perf_flame.specs.declared.error.FoldedError.{FoldedError}
use Rattle.perf_flame.specs.declared.error.FoldedError.TheVariants as errors

-- of a text of folded stacks
abbrev pub folded_message : FoldedError → List ℕ
folded_message (errors.BadLine n) = codes "line " ++ (decimal n ++ codes " is no folded stack: each line is a stack, a space and a count below 2^64")
folded_message errors.OutOfMemory = codes "out of memory: leave more of it to the program"

-- of a flame graph
abbrev pub flame_message : FlameError → List ℕ
flame_message flames.TooMany = codes "the counts have a sum of 2^64 or more: leave lines out"
flame_message flames.OutOfMemory = codes "out of memory: leave more of it to the program"
