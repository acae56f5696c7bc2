-- The text of a stack that grows.
use Rattle.std.specs.Prelude.{ℕ, List}
use Rattle.perf_flame.specs.declared.stack.Stack.{Stack}

-- the text so far
abbrev pub stack_text : Stack → List ℕ
stack_text stack = stack.bytes.items
