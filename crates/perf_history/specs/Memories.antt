-- What is mapped in one memory.
use Rattle.std.specs.Prelude.{◌≡◌, ℕ, ◌<◌, ◌^◌, List, Option, slice_get, option_map, option_and_then}
use Rattle.perf_history.specs.Forests.{found}
use Rattle.perf_history.specs.Histories.{place_of}
use Rattle.perf_history.specs.Places.{place_in}
use Rattle.perf_history.specs.declared.changes.Change.{Change}
use Rattle.perf_history.specs.declared.changes.Mode.{Mode}
use Rattle.perf_history.specs.declared.memories.Memory.{Memory}
use Rattle.perf_history.specs.declared.places.Mapping.{Mapping}
use Rattle.perf_history.specs.declared.places.Place.{Place}

-- the mapping at an address
abbrev pub mapped : Memory → (address : ℕ) → Option Mapping
mapped memory address =
    option_and_then (slice_get memory.history.now.mappings.items) (found memory.history.now.spaces.forest memory.tree address)

-- what is at an address
unfoldable pub place_at : Memory → (address : ℕ) → Option Place
place_at memory address = option_map (λ m. place_in m address) (mapped memory address)

-- it is the memory in which a process runs code in a mode after these changes
pub record IsMemory (memory : Memory) (changes : List Change) (pid : ℕ) (mode : Mode) : Type 0 where
  pub places : (address : ℕ) → address < 2 ^ 64 → place_at memory address ≡ place_of changes pid mode address
