use Rattle.std.proofs.Common.{◌≡◌, ◌++◌, ℕ, take, reverse}
use Rattle.perf_flame.specs.Grown.{text_of}
use Rattle.perf_history.specs.declared.changes.Change.{Change}
use Rattle.std.specs.Prelude.{List}
use Rattle.perf_fold.specs.Memories.{IsMemoryOf}
use Rattle.perf_fold.specs.SampleStacks.{calls_text}
use Rattle.perf_fold.proofs.stack.push_each.Given as goal

-- the frames of the calls so far
abbrev pub invariant-loop-index : goal.invariant-loop-index
invariant-loop-index l =
    (pid : ℕ) (known : List Change) → IsMemoryOf pid known l.memory → text_of l.stacks ≡ text_of l.initial.stacks ++ calls_text l.frames pid known (take l.index (reverse l.calls))
