-- The memory of a process in a walk.
use Rattle.std.specs.Prelude.{◌≡◌, ℕ, ◌<◌, ◌^◌, List, option_map}
use Rattle.perf_history.specs.Histories.{place_of}
use Rattle.perf_history.specs.Memories.{place_at}
use Rattle.perf_history.specs.declared.changes.Change.{Change}
use Rattle.perf_history.specs.declared.changes.Mode.TheVariants.{User}
use Rattle.perf_history.specs.declared.memories.Memory.{Memory}
use Rattle.perf_walk.specs.Plain.{plain_place}

-- it has at each address what is known to be there where the process runs code of its own
pub record IsMemoryOf (pid : ℕ) (known : List Change) (memory : Memory) : Type 0 where
  pub places : (address : ℕ) → address < 2 ^ 64 → option_map plain_place (place_at memory address) ≡ place_of known pid User address
