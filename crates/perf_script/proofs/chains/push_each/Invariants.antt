use Rattle.std.proofs.Common.{◌≡◌, ◌++◌, ℕ, List, take}
use Rattle.perf_history.specs.Memories.{IsMemory}
use Rattle.perf_history.specs.declared.changes.Change.{Change}
use Rattle.perf_history.specs.declared.changes.Mode.TheVariants.{Kernel, User}
use Rattle.perf_script.specs.Chains.{call_lines}
use Rattle.perf_script.proofs.chains.push_each.Given as goal

abbrev pub invariant-loop-call : goal.invariant-loop-call
invariant-loop-call l =
    (changes : List Change) (pid : ℕ) → IsMemory l.user changes pid User → IsMemory l.kernel changes pid Kernel
    → l.text.items ≡ l.initial.text.items ++ call_lines l.with_place changes pid (take l.call-index l.calls)
