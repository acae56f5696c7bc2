use Rattle.std.specs.Prelude.{List}
use Rattle.perf_history.specs.declared.changes.Change.{Change}
use Rattle.perf_history.specs.declared.histories.History.{History}
use Rattle.perf_history.specs.Memories.{IsMemory}
use Rattle.std.proofs.Common.{subst}
use Rattle.perf_history.specs.Recorded.{IsHistory}
use Rattle.perf_history.specs.declared.changes.Mode.TheVariants.{User}
use Rattle.perf_fold.proofs.Remembered.{remembered}
use Rattle.perf_fold.proofs.stack.memory_of.Goals as goal

pub returns : goal.returns
returns c = λ known past.
    remembered c.args.walk.now.history c.memory.result c.args.pid known
    (subst (λ (h : History). (changes : List Change) → IsHistory h changes → IsMemory c.memory.result changes c.args.pid User) c.history.ensures c.memory.ensures) past
