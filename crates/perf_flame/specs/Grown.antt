-- The text of the stack of a sample that grows.
use Rattle.std.specs.Prelude.{ℕ, List}
use Rattle.perf_flame.specs.StackText.{stack_text}
use Rattle.perf_flame.specs.declared.stacks.Stacks.{Stacks}

-- the text so far
abbrev pub text_of : Stacks → List ℕ
text_of s = stack_text s.stack
