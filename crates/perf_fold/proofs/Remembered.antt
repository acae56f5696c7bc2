-- The memory of a process in a walk.
use Rattle.std.proofs.Common.{◌≡◌, ℕ, ◌<◌, ◌^◌, List, refl, ◌∙◌, ap}
use Rattle.std.specs.Prelude.{Option, None, option_map}
use Rattle.perf_flame.specs.Names.{frame_name}
use Rattle.perf_flame.specs.declared.names.Frames.{Frames}
use Rattle.perf_history.specs.Histories.{place_of}
use Rattle.perf_history.specs.Memories.{IsMemory, place_at}
use Rattle.perf_history.specs.Recorded.{IsHistory}
use Rattle.perf_history.specs.declared.changes.Change.{Change}
use Rattle.perf_history.specs.declared.changes.Mode.{Mode}
use Rattle.perf_history.specs.declared.changes.Mode.TheVariants.{Kernel, User, Other}
use Rattle.perf_history.specs.declared.histories.History.{History}
use Rattle.perf_history.specs.declared.memories.Memory.{Memory}
use Rattle.perf_history.specs.declared.places.Place.{Place}
use Rattle.perf_walk.specs.Plain.{IsPast, plain_place}
use Rattle.perf_walk.proofs.PlainNames.{place_plain}
use Rattle.perf_fold.specs.Memories.{IsMemoryOf}
use Rattle.perf_fold.proofs.PlainTexts.{frame_same}

-- that of a history
pub remembered : (history : History) (memory : Memory) (pid : ℕ) (known : List Change) → ((changes : List Change) → IsHistory history changes → IsMemory memory changes pid User) → IsPast history known → IsMemoryOf pid known memory
remembered history memory pid known of past =
    let is : IsMemory memory past.0 pid User = of past.0 past.1 in
    record { places = λ address below. ap (option_map plain_place) (is.places address below) ∙ place_plain past.0 pid User address ∙ ap (λ (cs : List Change). place_of cs pid User address) past.2 }

-- the name of a frame in it
pub named_there : (frames : Frames) (pid : ℕ) (known : List Change) (memory : Memory) (mode : Mode) (address : ℕ) (found : Option Place) → IsMemoryOf pid known memory → address < 2 ^ 64 → mode ≡ User → found ≡ place_at memory address
    → frame_name frames mode address found ≡ frame_name frames mode address (place_of known pid mode address)
named_there frames pid known memory User address found is below user here =
    frame_same frames User address found ∙ ap (frame_name frames User address) (ap (option_map plain_place) here ∙ is.places address below)
named_there frames pid known memory Kernel address found is below user here = absurd (cc)
named_there frames pid known memory Other address found is below user here = absurd (cc)

-- one whose name does not depend on what is mapped
pub named_nowhere : (frames : Frames) (pid : ℕ) (known : List Change) (mode : Mode) (address : ℕ) → (mode ≡ User → ⊥) → frame_name frames mode address None ≡ frame_name frames mode address (place_of known pid mode address)
named_nowhere frames pid known Kernel address not = refl
named_nowhere frames pid known User address not = absurd (not refl)
named_nowhere frames pid known Other address not = refl
